-- A send's options (document 02, request 1): the check of them, and the flags that join the rights of a region, with its hash stored or cleared.
use Rattle.std.specs.Prelude.{◌≡◌, ℕ, ◌%◌, ◌<◌, Bool, not, ◌||◌, length, Ok, Err}
use Rattle.std.proofs.Math.Path.{refl, sym, ap}
use Rattle.std.proofs.Common.{◌∙◌}
use Rattle.std.proofs.Math.Bool.{true, false}
use Rattle.std.proofs.Math.Option.{Option, none, some}
use native.Mathlib.Omega.{arith}
use Rattle.base.specs.Cases.{pick}
use Rattle.rights.specs.Rights.{union, allowed, has, HASH}
use Rattle.model.specs.Lists.{In}
use Rattle.model.specs.Outcome.{Outcome, ◌>>◌, require}
use Rattle.refusals.specs.Refusals.{bad_flag, no_hash}
use Rattle.model.specs.State as state
use Rattle.model.specs.State.{State, put_region}
use Rattle.model.specs.Regions as regions
use Rattle.model.specs.Calls as model
use Rattle.laws.specs.Tree.Steps.{region-at}
use Rattle.tables.specs.declared.RegionCapa.{RegionCapa}
use Rattle.tables.specs.Tables.{Tables, with_region, with_hash}
use Rattle.answers.specs.Answers.{Effect, and_then}
use Rattle.send_options.specs.declared.SendOptions.{SendOptions}
use Rattle.send_options.specs.declared.SendOptions.TheVariants as options
use Rattle.send_options.specs.Joining.{with_rights, add_hcv, with_options, apply_options}
use Rattle.send_options.specs.Options.{flags_answer, options_answer, check_options}
use Rattle.decoded.specs.Tables.{region_for, hash_for, region_hash_for, tables_of}
use Rattle.decoded.specs.Tree.Regions.{region-read, region-put}
use Rattle.refine.specs.Agrees.{Agrees}

-- as the code is given them; without a flag word a hash says nothing
abbrev pub options_for : Option ℕ → Option state.Hash → SendOptions
options_for none x = options.None
options_for (some f) none = options.Flags (record { 0 = f })
options_for (some f) (some x) = options.Hashed (record { 0 = f }) (hash_for x)

abbrev pub options_in : state.SendOptions → SendOptions
options_in o = options_for o.flags o.hash

-- 18, then 19, and what follows where they pass
module _ (t : Tables) (f : Tables → Effect) (m : Outcome (ℕ × State)) (h : Agrees (f t) m) where
  tested : (b d c : Bool) → Agrees (and_then (record { answer = pick b (pick d (Ok 0) (pick c (Err no_hash) (Ok 0))) (Err bad_flag); tables = t }) (λ u. f)) ((require b bad_flag >> require (not c || d) no_hash) >> m)
  unfolding and_then require ◌>>◌
  tested true true true = h
  tested true true false = h
  tested true false true = refl
  tested true false false = h
  tested false d c = refl

  pub check-options-refines : (o : state.SendOptions) → Agrees (and_then (check_options (options_in o) t) (λ u. f)) (model.check_options o >> m)
  unfolding and_then ◌>>◌ flags_answer options_answer model.check_options
  check-options-refines o = go o.flags o.hash
    where
      go : (k : Option ℕ) (x : Option state.Hash) → Agrees (and_then (check_options (options_for k x) t) (λ u. f)) (model.check_options (record { flags = k; hash = x }) >> m)
      go none x = h
      go (some g) none = tested (allowed 0 g) false (has g HASH)
      go (some g) (some x) = tested (allowed 0 g) true (has g HASH)

-- the rights of a live region are below 256, so that the code's rights of the stored word are the region's
module _ (s : State) (long : length s.regions ≡ s.sizes.regions) (i : ℕ) (g : state.Region) (at : In s.regions i g) (byte : g.rights < 256) where
  joined : (f : ℕ) (x : Option state.Hash) → with_options i (record { 0 = f }) (region_hash_for x) (tables_of s) ≡ tables_of (put_region i (state.with_rights_hash (union g.rights f) x g) s)
  unfolding with_options add_hcv
  joined f x =
      let low : g.rights % 256 ≡ g.rights = omega arith in
      ap (λ (r : RegionCapa). with_hash (with_region (tables_of s) i (with_rights r (union (r.rights % 256) f))) i (region_hash_for x)) (region-read s long i g at)
      ∙ ap (λ (n : ℕ). with_hash (with_region (tables_of s) i (with_rights (region_for s.regions i (some g)) (union n f))) i (region_hash_for x)) low
      ∙ sym (region-put s long i g at (state.with_rights_hash (union g.rights f) x g) refl)

  pub apply-options-is : (o : state.SendOptions) → apply_options i (options_in o) (tables_of s) ≡ tables_of (regions.apply_options i o s)
  unfolding apply_options regions.apply_options
  apply-options-is o = go o.flags o.hash
    where
      there : (f : ℕ) (x : Option state.Hash) → tables_of (put_region i (state.with_rights_hash (union g.rights f) x g) s) ≡ tables_of (regions.apply_options i (record { flags = some f; hash = x }) s)
      there f x = ap (λ (r : state.Region). tables_of (put_region i (state.with_rights_hash (union r.rights f) x r) s)) (sym (region-at s i g at))

      go : (k : Option ℕ) (x : Option state.Hash) → apply_options i (options_for k x) (tables_of s) ≡ tables_of (regions.apply_options i (record { flags = k; hash = x }) s)
      go none x = refl
      go (some f) none = joined f none ∙ there f none
      go (some f) (some x) = joined f (some x) ∙ there f (some x)
