-- Laws: tables are those of a sound state exactly where they are canonical, or well formed, and the state that is read from them is sound.
use Rattle.std.specs.Prelude.{◌≡◌}
use Rattle.std.proofs.Common.{sym, ap, subst, ◌∙◌}
use Rattle.model.specs.State.{State}
use Rattle.model.specs.Sound.{Sound}
use Rattle.tables.specs.Tables.{Tables}
use Rattle.decoded.specs.Shape.{Shaped}
use Rattle.decoded.specs.Tables.{tables_of}
use Rattle.decoded.specs.Decode.Read.{state_of}
use Rattle.decoded.specs.Decode.Law.{decode}
use Rattle.decoded.specs.Canonical.WellFormed.{Canonical, WellFormed}
use Rattle.decoded.specs.Canonical.Law.{canonical}
use Rattle.decoded.specs.Canonical.Sound.{sound-walked}
use Rattle.decoded.specs.Canonical.Tables.{tables-well-formed}

-- v are the tables of a sound state
abbrev pub SoundTables : Tables → Type 0
SoundTables v = (s : State) × Sound s × (v ≡ tables_of s)

-- the one state is the one that is read
pub sound-tables-read : (v : Tables) (s : State) → Sound s → v ≡ tables_of s → state_of v ≡ s
sound-tables-read v s h e = ap state_of e ∙ decode s h

pub canonical-sound : (v : Tables) → Canonical v → Sound (state_of v) → SoundTables v
canonical-sound v e h = (state_of v, h, sym e)

pub sound-canonical : (v : Tables) → SoundTables v → Canonical v × Sound (state_of v)
sound-canonical v x =
    let e = sound-tables-read v x.0 x.1 x.2 in
    (ap tables_of e ∙ sym x.2, subst Sound (sym e) x.1)

-- ---- by the rows

pub well-formed-canonical : (v : Tables) → Shaped v → WellFormed v → Sound (state_of v) → Canonical v
well-formed-canonical v s t h = canonical v s t (sound-walked v s t h)

pub well-formed-sound : (v : Tables) → Shaped v → WellFormed v → Sound (state_of v) → SoundTables v
well-formed-sound v s t h = canonical-sound v (well-formed-canonical v s t h) h

pub sound-well-formed : (v : Tables) → SoundTables v → WellFormed v × Sound (state_of v)
sound-well-formed v x = (subst WellFormed (sym x.2) (tables-well-formed x.0 x.1), (sound-canonical v x).1)
