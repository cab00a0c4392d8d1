-- A well formed region has the words of the region that is read from it, where it stands in the list that its parent link names.
use Rattle.std.specs.Prelude.{◌≡◌, refl, ℕ, zero, suc, ◌≤◌, ◌<◌, List, eqb, get_or}
use Rattle.std.proofs.Common.{sym, ap, ◌∙◌, arith}
use Rattle.std.proofs.Math.Option
use Rattle.std.proofs.Math.Option.{Option, some}
use Rattle.model.specs.Lists.{count_if, at_slot, after_in}
use Rattle.model.specs.State as state
use Rattle.model.specs.State.{parent_of, region_in, none_region}
use Rattle.model.specs.Layout.{link, kind_word, siblings}
use Rattle.laws.specs.Words.SameTables.{unlink}
use Rattle.tables.specs.declared.RegionCapa.{RegionCapa}
use Rattle.tables.specs.declared.RegionHash.{RegionHash}
use Rattle.tables.specs.Tables.{no_region, no_hash}
use Rattle.decoded.specs.Tables.{region_for, region_hash_for}
use Rattle.decoded.specs.Decode.Read.{kind_from, children_from, hash_by, hash_from, region_from}
use Rattle.decoded.specs.Canonical.Ends.{chain_end, chain_first, chain-after}
use Rattle.decoded.specs.Canonical.WellFormed.{RegionWellFormed, HashWellFormed}

pub unlinked : (l : ℕ) → 0 < l → suc (unlink l) ≡ l
unlinked zero h = absurd (omega arith)
unlinked (suc i) h = refl

kind-kept : (k p : ℕ) → 1 ≤ k → k ≤ 3 → kind_word (kind_from k p) ≡ k
kind-kept zero p a b = absurd (omega arith)
kind-kept (suc zero) p a b = refl
kind-kept (suc (suc zero)) p a b = refl
kind-kept (suc (suc (suc zero))) p a b = refl
kind-kept (suc (suc (suc (suc k)))) p a b = absurd (omega arith)

parent-kept : (k p : ℕ) → 1 ≤ k → (k ≡ 1 → p ≡ 0) → (2 ≤ k → 0 < p) → link (parent_of (kind_from k p)) ≡ p
parent-kept zero p a r c = absurd (omega arith)
parent-kept (suc zero) p a r c = sym (r refl)
parent-kept (suc (suc zero)) p a r c = unlinked p (c (omega arith))
parent-kept (suc (suc (suc k))) p a r c = unlinked p (c (omega arith))

-- ---- hashes

hash-go : (n : ℕ) (x : RegionHash) → x.given ≡ n → n ≤ 1 → (n ≡ 0 → x ≡ no_hash) → region_hash_for (hash_by n (record { word0 = x.word0; word1 = x.word1; word2 = x.word2; word3 = x.word3 })) ≡ x
hash-go zero x e b c = sym (c refl)
hash-go (suc zero) x e b c = λ t. record { given = sym e t; word0 = x.word0; word1 = x.word1; word2 = x.word2; word3 = x.word3 }
hash-go (suc (suc n)) x e b c = absurd (omega arith)

pub hash-kept : (x : RegionHash) → HashWellFormed x → region_hash_for (hash_from x) ≡ x
hash-kept x h = hash-go x.given x refl h.given_bit h.none_clear

-- ---- regions

-- n rows, and the regions that are read from them
module _ (n : ℕ) (rows : List RegionCapa) (rs : List (Option state.Region)) where
  -- the sibling link of row i: that of its parent's list
  module _ (i : ℕ) (listed : (p : ℕ) → 2 ≤ (get_or rows i no_region).kind → (get_or rows i no_region).parent ≡ suc p → link (after_in (region_in rs p).children i) ≡ (get_or rows i no_region).next) where
    next-go : (k p x : ℕ) → 1 ≤ k → (k ≡ 1 → x ≡ 0) → (2 ≤ k → 0 < p) → ((q : ℕ) → 2 ≤ k → p ≡ suc q → link (after_in (region_in rs q).children i) ≡ x) → link (after_in (siblings rs (kind_from k p)) i) ≡ x
    next-go zero p x a r c l = absurd (omega arith)
    next-go (suc zero) p x a r c l = sym (r refl)
    next-go (suc (suc zero)) p x a r c l = l (unlink p) (omega arith) (sym (unlinked p (c (omega arith))))
    next-go (suc (suc (suc k))) p x a r c l = l (unlink p) (omega arith) (sym (unlinked p (c (omega arith))))

    pub region-kept : RegionWellFormed (get_or rows i no_region) → chain_end (λ j. (get_or rows j no_region).next) n (get_or rows i no_region).child ≡ 0 → (x : RegionHash) → region_for rs i (some (region_from n rows (get_or rows i no_region) x)) ≡ get_or rows i no_region
    region-kept h e x =
        let r = get_or rows i no_region in
        let kind = kind-kept r.kind r.parent h.kind_low h.kind_high in
        let owner = unlinked r.owner h.owned in
        let parent = parent-kept r.kind r.parent h.kind_low h.root_parent h.child_parent in
        let child = chain_first (λ j. (get_or rows j no_region).next) n r.child e in
        let next = next-go r.kind r.parent r.next h.kind_low h.root_next h.child_parent listed in
        λ t. record { kind = kind t; owner = owner t; parent = parent t; start = r.start; end = r.end; rights = r.rights; child = child t; next = next t }

  -- the link behind row i in the list of the region in slot p
  pub next-kept : (i p : ℕ) (x : RegionHash) → at_slot rs p ≡ some (region_from n rows (get_or rows p no_region) x) → chain_end (λ j. (get_or rows j no_region).next) n (get_or rows p no_region).child ≡ 0
      → 0 < count_if (eqb i) (children_from n rows (get_or rows p no_region).child) → link (after_in (region_in rs p).children i) ≡ (get_or rows i no_region).next
  next-kept i p x at e o =
      ap (λ (x : Option state.Region). link (after_in (Option.get_or x none_region).children i)) at
      ∙ chain-after (λ j. (get_or rows j no_region).next) n (get_or rows p no_region).child e i o
