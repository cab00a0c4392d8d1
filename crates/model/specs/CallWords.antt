-- What a program can name in a call: 64-bit numbers, and rights of 8 bits (document 01, "The call, from the entry down"). No definition asks this;
-- theorems about lists of calls do, and the exported functions' arguments have it by their types.
use Rattle.std.specs.Prelude.{ℕ, ◌<◌}
use Rattle.std.proofs.Math.Option.{Option, none, some}
use Rattle.model.specs.State.{Word, Sizes, Handle, Access, SendOptions, HashWords}
use Rattle.model.specs.Perform.{Step, Reading, Call}

-- a handle, a range with rights, a send's options, sizes
abbrev pub HandleWords : Handle → Type 0
HandleWords h = Word h.slot × Word h.generation

abbrev pub AccessWords : Access → Type 0
AccessWords a = Word a.start × Word a.end × a.rights < 256

abbrev pub FlagsByte : Option ℕ → Type 0
FlagsByte none = Unit {0}
FlagsByte (some f) = f < 256

abbrev pub OptionsWords : SendOptions → Type 0
OptionsWords o = FlagsByte o.flags × HashWords o.hash

abbrev pub SizesWords : Sizes → Type 0
SizesWords z = Word z.domains × Word z.slots × Word z.regions × Word z.records × Word z.updates

-- All arguments of a call are words, its rights below 256.
abbrev pub StepWords : Step → Type 0
StepWords (Step.Open none cores) = Word cores
StepWords (Step.Open (some m) cores) = HandleWords m × Word cores
StepWords (Step.Channel h to) = HandleWords h × HandleWords to
StepWords (Step.SetCoreMap h cores) = HandleWords h × Word cores
StepWords (Step.SetInterface h word) = HandleWords h × Word word
StepWords (Step.FreezeInterface h) = HandleWords h
StepWords (Step.Root h a) = HandleWords h × AccessWords a
StepWords (Step.Alias h l a) = HandleWords h × Word l × AccessWords a
StepWords (Step.Carve h l a) = HandleWords h × Word l × AccessWords a
StepWords (Step.Send h l target o) = HandleWords h × Word l × Word target × OptionsWords o
StepWords (Step.Revoke h l) = HandleWords h × Word l
StepWords (Step.CreateRevokeCapa h l) = HandleWords h × Word l

abbrev pub ReadingWords : Reading → Type 0
ReadingWords (Reading.Permissions h) = HandleWords h
ReadingWords (Reading.Refcount h from to) = HandleWords h × Word from × Word to
ReadingWords (Reading.CoreMap h) = HandleWords h
ReadingWords (Reading.Holders a) = Word a

abbrev pub CallWords : Call → Type 0
CallWords (Call.Make z) = SizesWords z
CallWords (Call.Do c) = StepWords c
CallWords Call.Pop = Unit {0}
CallWords (Call.Read r) = ReadingWords r
