-- A tracker read from the record rows: each record's row has the link of the next. A record's slot is used once over all domains, so a tracker has
-- no more records than there are slots, and each row is this tracker's.
use Rattle.std.specs.Prelude.{◌≡◌, refl, ℕ, zero, suc, ◌+◌, ◌≤◌, ◌<◌, List, [], ◌∷◌, ◌++◌, map, length}
use Rattle.std.proofs.Common.{sym, ap, ◌∙◌, arith}
use Rattle.std.proofs.Math.Option.{Option}
use Rattle.std.proofs.lemmas.List.{length-map}
use Rattle.std.proofs.Math.Seq.{append_snoc}
use Rattle.model.specs.Lists.{In}
use Rattle.model.specs.State.{Record, Domain}
use Rattle.model.specs.Layout.{link}
use Rattle.model.specs.Sound.{record_uses}
use Rattle.laws.specs.Words.SameTrackers.{uses, first_slot, owned, slots-uses}
use Rattle.laws.specs.Tracker.Pools.{uses-append}
use Rattle.laws.specs.Stack.{one}
use Rattle.laws.specs.Test.Paths.{no_longer}
use Rattle.tables.specs.declared.Region.{Region}
use Rattle.decoded.specs.Tables.{record_for, record_in}
use Rattle.decoded.specs.Tracker.Trackers.{record-read}
use Rattle.decoded.specs.Decode.Read.{chain_from, record_from}
use Rattle.decoded.specs.Decode.Walks.{chain-none}

-- the rows spell out the tracker
abbrev pub Stored : (ℕ → Region) → List Record → Type 0
Stored f [] = Unit {0}
Stored f (q ∷ l) = (f q.slot ≡ record_for q (first_slot l)) × Stored f l

pub tracker-walked : (f : ℕ → Region) (n : ℕ) (l : List Record) → length l ≤ n → Stored f l → map (λ i. record_from i (f i)) (chain_from (λ i. (f i).next) n (link (first_slot l))) ≡ l
tracker-walked f n [] b h = ap (map (λ i. record_from i (f i))) (chain-none (λ i. (f i).next) n)
tracker-walked f zero (q ∷ l) b h = absurd (omega arith)
tracker-walked f (suc n) (q ∷ l) b h =
    let e = ap (record_from q.slot) h.0 in
    let t = ap (λ k. map (λ i. record_from i (f i)) (chain_from (λ i. (f i).next) n k)) (ap (λ (r : Region). r.next) h.0) ∙ tracker-walked f n l (omega arith) h.1 in
    λ i. e i ∷ t i

module _ (ds : List (Option Domain)) (d : ℕ) (x : Domain) (at : In ds d x) (once : (i : ℕ) → record_uses ds i ≤ 1) where
  pub tracker-fits : (n : ℕ) → ((i : ℕ) → n ≤ i → record_uses ds i ≡ 0) → length x.tracker ≤ n
  tracker-fits n h = omega (
    arith,
    length-map x.tracker (λ (q : Record). q.slot),
    no_longer n (map (λ (q : Record). q.slot) x.tracker) (λ k b. omega (arith, slots-uses k x.tracker, (owned ds d x at k).0, h k b)) (λ k. omega (arith, slots-uses k x.tracker, (owned ds d x at k).0, once k)),
  )

  used : (b a : List Record) (q : Record) → x.tracker ≡ b ++ q ∷ a → 0 < record_uses ds q.slot
  used b a q z =
      let i = q.slot in
      let n : uses i x.tracker ≡ uses i b + uses i (q ∷ a) = ap (uses i) z ∙ uses-append i b (q ∷ a) in
      omega (arith, one i i refl, (owned ds d x at i).0)

  -- the rest a of the tracker, behind b
  pub tracker-stored : (f : ℕ → Region) → ((i : ℕ) → 0 < record_uses ds i → f i ≡ record_in ds i) → (b a : List Record) → x.tracker ≡ b ++ a → Stored f a
  tracker-stored f e b [] z = tt
  tracker-stored f e b (q ∷ a) z = (e q.slot (used b a q z) ∙ record-read ds d x at b a q z (once q.slot), tracker-stored f e (b ++ (q ∷ [])) a (z ∙ sym (append_snoc b q a)))
