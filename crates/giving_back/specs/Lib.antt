pub mod GiveBack
