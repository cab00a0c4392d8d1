-- SetCoreMap keeps Sound: a core map, which is a word, is put back, and nothing else changes.
use Rattle.std.specs.Prelude.{ℕ}
use Rattle.model.specs.State.{Word, State, Handle, Domain}
use Rattle.model.specs.Calls.{set_core_map}
use Rattle.model.specs.Sound.{Sound}
use Rattle.laws.specs.Accepted.{All, accepted, bind}
use Rattle.laws.specs.Capas.Checks.{live-domain}
use Rattle.laws.specs.Capas.Put.{put-sound}

pub set-core-map-sound : (s : State) (h : Handle) (c : ℕ) → Sound s → Word c → All Sound (set_core_map h c s)
unfolding set_core_map
set-core-map-sound s h c k w = bind (live-domain s h) (λ d l. accepted (put-sound s d l.domain (λ x. c) (λ (x : Domain). x.interface) k l.is w (k.outside.interface_words d l.domain l.is)))
