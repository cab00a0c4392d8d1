-- Equal words of the regions and of their hashes give the same regions. A region's list of children is told by the first child and each child's next sibling:
-- a region stands in exactly its parent's list, once, so its sibling link is that list's.
use Rattle.std.specs.Prelude.{◌≡◌, refl, ℕ, zero, suc, ◌<◌, ◌≤◌, List, [], ◌∷◌, T, eqb, length, get_or}
use Rattle.std.proofs.Common.{ap, ap₂, sym, ◌∙◌, arith, eqb→eq}
use Rattle.std.proofs.Math.Option
use Rattle.std.proofs.Math.Option.{Option, none, some}
use Rattle.base.specs.Cases.{holds, fails, test}
use Rattle.base.specs.Tests.{true-is}
use Rattle.model.specs.Lists.{one_if, is_some, count_if, Each, at_slot, In, first_of, after_in}
use Rattle.model.specs.State.{Kind, Root, Alias, Carve, parent_of, Hash, Region, none_region, region_in}
use Rattle.model.specs.Layout.{link, slot_or0, kind_word, siblings, region_words, hash_words}
use Rattle.model.specs.Sound.{slot_uses, names, RegionSound}
use Rattle.laws.specs.Stack.{one_at_most, same-stack}
use Rattle.laws.specs.Words.SameTables.{neither, both, pair, same-table, at_slots, unlink, same-slot}
use Rattle.laws.specs.Words.Length.{region_row, hash_row}
use Rattle.laws.specs.Tree.Facts.{named}
use Rattle.laws.specs.Tree.Slots.{in-length}

-- the kind, read from its word and the parent's link; used only in proofs
abbrev read_kind : ℕ → ℕ → Kind
read_kind zero l = Root
read_kind (suc zero) l = Root
read_kind (suc (suc zero)) l = Alias (unlink l)
read_kind (suc (suc (suc n))) l = Carve (unlink l)

read-kind : (k : Kind) → read_kind (kind_word k) (link (parent_of k)) ≡ k
read-kind Root = refl
read-kind (Alias p) = refl
read-kind (Carve p) = refl

-- a hash, read from its five words; used only in proofs
abbrev read_hash : ℕ → ℕ → ℕ → ℕ → ℕ → Option Hash
read_hash zero a b c d = none
read_hash (suc n) a b c d = some (record { word0 = a; word1 = b; word2 = c; word3 = d })

abbrev read_hash_row : List ℕ → Option Hash
read_hash_row r = read_hash (get_or r 0 0) (get_or r 1 0) (get_or r 2 0) (get_or r 3 0) (get_or r 4 0)

read-hash : (o : Option Hash) → read_hash_row (hash_row o) ≡ o
read-hash none = refl
read-hash (some x) = refl

-- ---- where a region is listed

-- a slot that is free stands in no list of live ones
unlisted : (rs : List (Option Region)) (c : ℕ) (l : List ℕ) → Each (λ x. T (is_some (at_slot rs x))) l → at_slot rs c ≡ none → count_if (eqb c) l ≡ 0
unlisted rs c [] h e = refl
unlisted rs c (x ∷ l) h e = elim (test (eqb c x)) [
  | holds t ↦ let z = eqb→eq c x (true-is t) in absurd (rw (← z, e) at h.0)
  | fails t ↦ rw t (omega (arith, unlisted rs c l h.1 e))
]

-- the parent of what a slot holds; used only in proofs
abbrev parent_at : Option Region → Option ℕ
parent_at none = none
parent_at (some g) = parent_of g.kind

-- how often c stands in the list of the region in slot p
listing : (rs : List (Option Region)) → ((i : ℕ) (g : Region) → In rs i g → RegionSound rs i g) → (p : ℕ) (g : Region) → In rs p g → (c : ℕ) → count_if (eqb c) g.children ≡ one_if (names (parent_at (at_slot rs c)) p)
listing rs h p g i c = go (at_slot rs c) refl
  where
    go : (o : Option Region) → at_slot rs c ≡ o → count_if (eqb c) g.children ≡ one_if (names (parent_at o) p)
    go none e = unlisted rs c g.children (h p g i).children_live e
    go (some x) e = (h c x e).listed p g i

-- `siblings` by the parent; used only in proofs
abbrev siblings_of : List (Option Region) → Option ℕ → List ℕ
siblings_of rs o = elim o [ none ↦ [] | some p ↦ (region_in rs p).children ]

parents-list : (rs : List (Option Region)) (k : Kind) (p : ℕ) (g : Region) → parent_of k ≡ some p → In rs p g → siblings rs k ≡ g.children
parents-list rs k p g e i = ap (siblings_of rs) e ∙ ap (λ (o : Option Region). (Option.get_or o none_region).children) i

module _ (n : ℕ) (rs ts : List (Option Region)) (ln : length rs ≡ n) (ln' : length ts ≡ n) (used : (i : ℕ) → slot_uses rs i ≡ slot_uses ts i)
    (rows : (i : ℕ) → i < n → region_words rs i ≡ region_words ts i) (hashes : (i : ℕ) → i < n → hash_words (at_slot rs i) ≡ hash_words (at_slot ts i))
    (hr : (i : ℕ) (g : Region) → In rs i g → RegionSound rs i g) (ht : (i : ℕ) (g : Region) → In ts i g → RegionSound ts i g) where
  -- word w of the row of a live region
  word : (w i : ℕ) (g k : Region) → In rs i g → In ts i k → get_or (region_row rs i (some g)) w 0 ≡ get_or (region_row ts i (some k)) w 0
  word w i g k a b =
      let row = at_slots (region_row rs i) (region_row ts i) (at_slot rs i) (at_slot ts i) g k a b (rows i (omega (arith, in-length rs i g a))) in
      ap (λ r. get_or r w 0) row

  same_kind : (i : ℕ) (g k : Region) → In rs i g → In ts i k → g.kind ≡ k.kind
  same_kind i g k a b = sym (read-kind g.kind) ∙ ap₂ read_kind (word 0 i g k a b) (word 2 i g k a b) ∙ read-kind k.kind

  same-hash : (i : ℕ) (g k : Region) → In rs i g → In ts i k → g.hash ≡ k.hash
  same-hash i g k a b =
      let row = at_slots hash_words hash_words (at_slot rs i) (at_slot ts i) g k a b (hashes i (omega (arith, in-length rs i g a))) in
      sym (read-hash g.hash) ∙ ap read_hash_row row ∙ read-hash k.hash

  same-parent : (c : ℕ) → parent_at (at_slot rs c) ≡ parent_at (at_slot ts c)
  same-parent c = elim (pair (at_slot rs c) (at_slot ts c) (used c)) [
    | neither u v ↦ ap parent_at (u ∙ sym v)
    | both x y u v ↦ ap parent_at u ∙ ap parent_of (same_kind c x y u v) ∙ sym (ap parent_at v)
  ]

  module _ (p : ℕ) (g k : Region) (a : In rs p g) (b : In ts p k) where
    same_count : (c : ℕ) → count_if (eqb c) g.children ≡ count_if (eqb c) k.children
    same_count c = listing rs hr p g a c ∙ ap (λ o. one_if (names o p)) (same-parent c) ∙ sym (listing ts ht p k b c)

    once : (c : ℕ) → count_if (eqb c) g.children ≤ 1
    once c = omega (arith, listing rs hr p g a c, one_at_most (names (parent_at (at_slot rs c)) p))

    next : (c : ℕ) → 0 < count_if (eqb c) g.children → slot_or0 (after_in g.children c) ≡ slot_or0 (after_in k.children c)
    next c h =
        let e = named (parent_at (at_slot rs c)) p (omega (arith, listing rs hr p g a c)) in
        let e' = sym (same-parent c) ∙ e in
        elim (pair (at_slot rs c) (at_slot ts c) (used c)) [
          | neither u v ↦ cc (ap parent_at u)
          | both x y u v ↦
              let l = parents-list rs x.kind p g (sym (ap parent_at u) ∙ e) a in
              let l' = parents-list ts y.kind p k (sym (ap parent_at v) ∙ e') b in
              same-slot (after_in g.children c) (after_in k.children c) (rw (l, l') at (word 7 c x y u v))
        ]

    same-children : g.children ≡ k.children
    same-children = same-stack g.children k.children same_count once (same-slot (first_of g.children) (first_of k.children) (word 6 p g k a b)) next

    same-region : g ≡ k
    same-region = λ i. record {
      owner = ap unlink (word 1 p g k a b) i;
      kind = same_kind p g k a b i;
      start = word 3 p g k a b i;
      end = word 4 p g k a b i;
      rights = word 5 p g k a b i;
      children = same-children i;
      hash = same-hash p g k a b i;
    }

  pub same-regions : rs ≡ ts
  same-regions = same-table rs ts (ln ∙ sym ln') used same-region
