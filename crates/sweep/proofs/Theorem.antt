-- The sweep over the sorted starts and ends of a list of pieces is exact: `sweep-exact`.
use Rattle.std.specs.Prelude.{◌≡◌, ◌↔◌, ℕ, ◌+◌, ◌<◌, true, ◌&&◌, List, [], ◌∷◌, T, eqb, leb}
use Rattle.std.proofs.Common.{arith, eqb→eq}
use Rattle.std.proofs.Math.Dec.{not_T}
use Rattle.std.specs.Float.Ieee.Fits.{and_l, and_r}
use Rattle.std.proofs.Math.ListN.{length}
use Rattle.base.specs.Tests.{is_true, true-is}
use Rattle.model.specs.Lists.{Each}
use Rattle.model.specs.State.{Record}
use Rattle.model.specs.Fields.{Field, get, passes}
use Rattle.model.specs.Tracker.{mergeable}
use Rattle.model.specs.Counts.{counts_at}
use Rattle.laws.specs.Fields.{get_none}
use Rattle.laws.specs.Tracker.Form.{Form}
use Rattle.laws.specs.Tracker.Merge.{Apart, merged-cons, merged-tail}
use Rattle.sweep.specs.Events.{Piece, Proper, Event, starts, ends, cover, Perm}
use Rattle.sweep.proofs.Events.{cover-is, cover-small, starts-covered}
use Rattle.sweep.specs.Sweep.{Sorted, cursor, no_record, sweep}
use Rattle.sweep.proofs.Exact.{Swept, Start, sweep→, →sweep}

-- The records have the form of a tracker (`Rising 0`, `Merged`, each reach above 0, each uncacheable count 0 or 1), and the five counts at
-- every address are those of the pieces.
abbrev pub Tracks : List Piece → List Record → Type 0
Tracks ps l = Form l × ((f : Field) (a : ℕ) → get f (counts_at l a) ≡ cover f ps a)

-- no record is one with the missing one before the first
first-apart : (l : List Record) → Each (λ q. 0 < q.counts.reach) l → Apart no_record l
first-apart [] h = tt
first-apart (q ∷ l) h = not_T (mergeable no_record q) (λ t. let u : T (eqb 0 q.counts.reach) = search (and_l, and_r) in let e = eqb→eq 0 q.counts.reach u in omega arith)

module _ (ps : List Piece) (l : List Record) where
  swept-tracks : Swept (λ f. cover f ps) no_record l → Tracks ps l
  swept-tracks s = (record { rising = s.rising; merged = merged-tail no_record l s.merged; reached = s.reached; uncacheable = s.uncacheable }, λ f a. s.counted f a (omega arith))

  tracks-swept : Tracks ps l → Swept (λ f. cover f ps) no_record l
  tracks-swept t = record { rising = t.0.rising; merged = merged-cons no_record l (first-apart l t.0.reached) t.0.merged; reached = t.0.reached; uncacheable = t.0.uncacheable; counted = λ f a i. t.1 f a }

  module _ (s e : List Event) (h : Proper ps) (o : Sorted 0 s) (o' : Sorted 0 e) (w : Perm s (starts ps)) (w' : Perm e (ends ps)) where
    start : Start (λ f. cover f ps) (length s + length e) no_record (cursor s) (cursor e)
    start = record {
      ready = record {
        starts = o;
        ends = o';
        covers = λ f a i. omega (arith, w (λ x. leb x.at a && passes f x.rights), w' (λ x. leb x.at a && passes f x.rights), cover-is f ps a h, get_none f);
        started = starts-covered ps s h w;
      };
      room = omega arith;
    }

    pub sweep-exact : (sweep l s e ≡ true) ↔ Tracks ps l
    unfolding sweep
    sweep-exact = (
      λ t. swept-tracks (sweep→ (λ f. cover f ps) (λ f a. cover-small f ps a) (length s + length e) no_record l (cursor s) (cursor e) start (true-is t)),
      λ t. is_true (→sweep (λ f. cover f ps) (λ f a. cover-small f ps a) (length s + length e) no_record l (cursor s) (cursor e) start (tracks-swept t)),
    )
