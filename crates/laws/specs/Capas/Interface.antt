-- SetInterface and FreezeInterface keep Sound: an interface, whose word is a word, is put back, and nothing else changes.
use Rattle.std.specs.Prelude.{ℕ}
use Rattle.std.proofs.Math.Bool.{true, false}
use Rattle.model.specs.State.{Word, State, Handle, Domain}
use Rattle.model.specs.Calls.{set_interface, freeze_interface}
use Rattle.model.specs.Sound.{Sound}
use Rattle.laws.specs.Accepted.{All, accepted, bind, and_then}
use Rattle.laws.specs.Capas.Checks.{live-domain}
use Rattle.laws.specs.Capas.Put.{put-sound}

module _ (s : State) (h : Handle) (k : Sound s) where
  pub set-interface-sound : (word : ℕ) → Word word → All Sound (set_interface h word s)
  unfolding set_interface
  set-interface-sound word w = bind (live-domain s h) (λ d l. and_then _ (accepted (put-sound s d l.domain (λ (x : Domain). x.cores) (λ x. record { word = word; frozen = false }) k l.is (k.outside.cores_words d l.domain l.is) w)))

  -- the word is the one that it was
  pub freeze-interface-sound : All Sound (freeze_interface h s)
  unfolding freeze_interface
  freeze-interface-sound = bind (live-domain s h) (λ d l. accepted (put-sound s d l.domain (λ (x : Domain). x.cores) (λ (x : Domain). record { word = x.interface.word; frozen = true }) k l.is (k.outside.cores_words d l.domain l.is) (k.outside.interface_words d l.domain l.is)))
