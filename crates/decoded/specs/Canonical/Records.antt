-- A record that is in a tracker has the words that are read from it, where the walk along the tracker ends.
use Rattle.std.specs.Prelude.{◌≡◌, refl, ℕ, zero, suc, ◌≤◌, ◌<◌, List, [], ◌∷◌, map, length}
use Rattle.std.proofs.Common.{sym, ap, ◌∙◌, arith, ne_eqb, subst}
use Rattle.std.proofs.Math.Option.{Option, none, some}
use Rattle.std.proofs.Math.Decide.{ℕ_discrete}
use Rattle.base.specs.Cases.{lt, ge, cmp}
use Rattle.model.specs.Lists.{one_if, In}
use Rattle.model.specs.State.{Record, Domain}
use Rattle.model.specs.Layout.{link}
use Rattle.model.specs.Sound.{record_uses}
use Rattle.laws.specs.Words.SameTrackers.{uses, first_slot}
use Rattle.tables.specs.declared.Region.{Region}
use Rattle.decoded.specs.Tables.{record_for, in_tracker_for, record_in}
use Rattle.decoded.specs.Tracker.Trackers.{row_first, row-later, not-here}
use Rattle.decoded.specs.Decode.Read.{chain_from, record_from}
use Rattle.decoded.specs.Decode.Trackers.{Stored}
use Rattle.decoded.specs.Canonical.Ends.{chain_end, chain_first, end_none}
use Rattle.decoded.specs.Canonical.Domains.{first_read}

-- ---- a walked tracker is stored in the rows

pub walked-stored : (f : ℕ → Region) (n l : ℕ) → chain_end (λ i. (f i).next) n l ≡ 0 → Stored f (map (λ i. record_from i (f i)) (chain_from (λ i. (f i).next) n l))
walked-stored f zero l e = tt
walked-stored f (suc n) zero e = tt
walked-stored f (suc n) (suc i) e = (row, walked-stored f n (f i).next e)
  where
    row : f i ≡ record_for (record_from i (f i)) (first_slot (map (λ j. record_from j (f j)) (chain_from (λ j. (f j).next) n (f i).next)))
    row =
        let r = f i in
        let next = sym (ap link (first_read (λ j. record_from j (f j)) (λ j. refl) (chain_from (λ j. (f j).next) n r.next)) ∙ chain_first (λ j. (f j).next) n r.next e) in
        λ t. record { start = r.start; end = r.end; ref_count = r.ref_count; read_count = r.read_count; write_count = r.write_count; exec_count = r.exec_count; super_count = r.super_count; uncache_count = r.uncache_count; next = next t }

-- and a stored tracker ends
pub stored-ends : (f : ℕ → Region) (n : ℕ) (l : List Record) → length l ≤ n → Stored f l → chain_end (λ i. (f i).next) n (link (first_slot l)) ≡ 0
stored-ends f n [] b h = end_none (λ i. (f i).next) n
stored-ends f zero (q ∷ l) b h = absurd (omega arith)
stored-ends f (suc n) (q ∷ l) b h = ap (λ (r : Region). chain_end (λ i. (f i).next) n r.next) h.0 ∙ stored-ends f n l (omega arith) h.1

-- ---- the row of a record

stored_row : (f : ℕ → Region) (l : List Record) → Stored f l → (i : ℕ) (r : Region) → 0 < uses i l → in_tracker_for i l r ≡ f i
stored_row f [] h i r o = absurd (omega arith)
stored_row f (q ∷ l) h i r o = elim (ℕ_discrete i q.slot) [
  | yes e ↦ subst (λ (z : ℕ). in_tracker_for z (q ∷ l) r ≡ f z) (sym e) (row_first q l r ∙ sym h.0)
  | no ne ↦ row-later i q l r ne ∙ stored_row f l h.1 i r (omega (arith, ap one_if (ne_eqb i q.slot ne)))
]

pub record-kept : (f : ℕ → Region) (ds : List (Option Domain)) → ((d : ℕ) (x : Domain) → In ds d x → Stored f x.tracker) → (i : ℕ) → 0 < record_uses ds i → record_in ds i ≡ f i
record-kept f [] h i o = absurd (omega arith)
record-kept f (none ∷ ds) h i o = record-kept f ds (λ d x e. h (suc d) x e) i o
record-kept f (some x ∷ ds) h i o = elim (cmp 0 (uses i x.tracker)) [
  | lt u ↦ stored_row f x.tracker (h 0 x refl) i (record_in ds i) u
  | ge u ↦ not-here i x.tracker (record_in ds i) (omega arith) ∙ record-kept f ds (λ d y e. h (suc d) y e) i (omega arith)
]
