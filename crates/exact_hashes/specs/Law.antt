-- A law: the test of the regions' hashes (document 02, request 1) is exact. It holds exactly where the clauses of `WellFormed` about them do.
use Rattle.std.specs.Prelude.{◌≡◌, ◌↔◌, Bool, false, ℕ, zero, suc, ◌<◌, eqb}
use Rattle.std.proofs.Math.Path.{refl, ap}
use Rattle.std.proofs.Common.{sym, ◌∙◌, arith, eqb-true, eq-eqb, ne_eqb}
use Rattle.std.proofs.Math.Bool.{true}
use Rattle.base.specs.Cases.{holds, fails, test}
use Rattle.base.specs.Tests.{both, both_true, all-at, at_all}
use Rattle.tables.specs.declared.RegionHash.{RegionHash}
use Rattle.tables.specs.Tables.{Tables, no_hash, hash_at}
use Rattle.arena.specs.Arena.{is_free_b}
use Rattle.decoded.specs.Decode.Read.{taken}
use Rattle.decoded.specs.Canonical.WellFormed.{HashWellFormed, hash_row}
use Rattle.decoded.specs.Canonical.Pools.{taken-used, not_taken}
use Rattle.sound_hashes.specs.Hashes.{hash_clear, hash_fits, row_holds, hashes_hold}

-- what `WellFormed` says of the hashes
pub record HashClauses (v : Tables) : Type 0 where
  pub hashes_used : (i : ℕ) → i < v.sizes.regions → taken v.region_pool i ≡ true → HashWellFormed (hash_row v i)
  pub hashes_free : (i : ℕ) → i < v.sizes.regions → taken v.region_pool i ≡ false → hash_row v i ≡ no_hash

-- ---- one row

hash-zero : (x : RegionHash) → hash_clear x ≡ true → x ≡ no_hash
unfolding hash_clear
hash-zero x h =
    let p = both_true (eqb x.given 0) _ h in
    let q = both_true (both (eqb x.word0 0) (eqb x.word1 0)) _ p.1 in
    let a = both_true (eqb x.word0 0) _ q.0 in
    let b = both_true (eqb x.word2 0) _ q.1 in
    λ i. record {
      given = eqb-true x.given 0 p.0 i;
      word0 = eqb-true x.word0 0 a.0 i;
      word1 = eqb-true x.word1 0 a.1 i;
      word2 = eqb-true x.word2 0 b.0 i;
      word3 = eqb-true x.word3 0 b.1 i;
    }

zero-hash : (x : RegionHash) → x ≡ no_hash → hash_clear x ≡ true
unfolding hash_clear
zero-hash x e = ap hash_clear e

zero-well-formed : (x : RegionHash) → x ≡ no_hash → HashWellFormed x
zero-well-formed x e = record { given_bit = omega (arith, ap (λ (y : RegionHash). y.given) e); none_clear = λ z. e }

-- the row of a region in use
fits-well-formed : (x : RegionHash) → hash_fits false x ≡ true → HashWellFormed x
unfolding hash_fits
fits-well-formed x h = elim (test (eqb x.given 1)) [
  | holds t ↦ let g = eqb-true x.given 1 t in record { given_bit = omega arith; none_clear = λ z. absurd (omega arith) }
  | fails t ↦ zero-well-formed x (hash-zero x (rw t at h))
]

well-formed-go : (n : ℕ) (x : RegionHash) → x.given ≡ n → HashWellFormed x → hash_fits false x ≡ true
unfolding hash_fits
well-formed-go zero x e h = rw (ne_eqb x.given 1 (λ z. omega arith)) (zero-hash x (h.none_clear e))
well-formed-go (suc zero) x e h = rw (eq-eqb x.given 1 e) refl
well-formed-go (suc (suc n)) x e h = absurd (omega (arith, h.given_bit))

-- that of a free slot
fits-zero : (x : RegionHash) → hash_fits true x ≡ true → x ≡ no_hash
unfolding hash_fits
fits-zero x h = hash-zero x h

zero-fits : (x : RegionHash) → x ≡ no_hash → hash_fits true x ≡ true
unfolding hash_fits
zero-fits x e = zero-hash x e

-- ---- all rows

-- what the test asks of slot i
abbrev holds_at : Tables → ℕ → Bool
holds_at v i = row_holds v.region_pool.links (hash_at v) i

module _ (v : Tables) where
  hold-clauses : hashes_hold v ≡ true → HashClauses v
  unfolding hashes_hold row_holds hash_at is_free_b
  hold-clauses h =
      let at : (i : ℕ) → i < v.sizes.regions → holds_at v i ≡ true = λ i b. all-at (holds_at v) 0 v.sizes.regions h i (omega arith) (omega arith) in
      record {
        hashes_used = λ i b t. fits-well-formed (hash_row v i) (ap (λ f. hash_fits f (hash_row v i)) (sym (taken-used v.region_pool i t)) ∙ at i b);
        hashes_free = λ i b t. fits-zero (hash_row v i) (ap (λ f. hash_fits f (hash_row v i)) (sym (not_taken v.region_pool i t)) ∙ at i b);
      }

  clauses-hold : HashClauses v → hashes_hold v ≡ true
  unfolding hashes_hold row_holds hash_at is_free_b
  clauses-hold c = at_all (holds_at v) 0 v.sizes.regions (λ i a b. elim (test (taken v.region_pool i)) [
    | holds t ↦ ap (λ f. hash_fits f (hash_row v i)) (taken-used v.region_pool i t) ∙ well-formed-go (hash_row v i).given (hash_row v i) refl (c.hashes_used i (omega arith) t)
    | fails t ↦ ap (λ f. hash_fits f (hash_row v i)) (not_taken v.region_pool i t) ∙ zero-fits (hash_row v i) (c.hashes_free i (omega arith) t)
  ])

  pub hashes-exact : (hashes_hold v ≡ true) ↔ HashClauses v
  hashes-exact = (hold-clauses, clauses-hold)
