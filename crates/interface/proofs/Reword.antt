-- A state whose domains have other words, slot d's the word g d: sound as the state is, if they are words, and with the same words of the tables but in the
-- interfaces' section.
use Rattle.std.specs.Prelude.{◌≡◌, refl, ℕ, zero, suc, ◌+◌, ◌*◌, T, eqb, length}
use Rattle.std.proofs.Common.{sym, ap, subst, ◌∙◌, le_refl, arith, length-append}
use Rattle.std.proofs.Math.Option.{Option, none, some}
use mathlib.Core.List.{List, [], ◌∷◌, ◌++◌, flat_map}
use Rattle.base.specs.Options.{none-some}
use Rattle.model.specs.Lists.{one_if, is_some, count_if, at_slot, In, count_up}
use Rattle.model.specs.State.{Word, State, Handle, Record, Domain, with_domains, with_interface}
use Rattle.model.specs.Pool.{is_live, handle_of}
use Rattle.model.specs.Layout.{header_words, pool_words, domain_words, region_words, record_slot_words, tracker_words, place_words, hash_words, interface_words, at_place, mark_words, words}
use Rattle.model.specs.Sound.{ListSound, TrackerSound, record_uses, names, is_region_of, is_management_of, Sound}
use Rattle.laws.specs.Parts.{rows-length}
use Rattle.laws.specs.Capas.Live.{live-onward, live-fits, fits-onward, list-onward, queue-onward}
use Rattle.laws.specs.Capas.Domain.{SameManagers, managed-onward}
use Rattle.laws.specs.Words.Length.{interface-width, mark-width, words-length}
use Rattle.interface.specs.FewerTables.{interfaces_at}

abbrev pub reword_of : ℕ → Domain → Domain
reword_of word x = with_interface (record { word = word; frozen = x.interface.frozen }) x

abbrev pub reword_in : ℕ → Option Domain → Option Domain
reword_in word none = none
reword_in word (some x) = some (reword_of word x)

abbrev pub reword_all : (ℕ → ℕ) → List (Option Domain) → List (Option Domain)
reword_all g [] = []
reword_all g (o ∷ l) = reword_in (g 0) o ∷ reword_all (λ d. g (suc d)) l

abbrev pub reword : (ℕ → ℕ) → State → State
reword g s = with_domains s.domain_pool (reword_all g s.domains) s

-- ---- slot by slot

pub reword-at : (g : ℕ → ℕ) (l : List (Option Domain)) (d : ℕ) → at_slot (reword_all g l) d ≡ reword_in (g d) (at_slot l d)
reword-at g [] d = refl
reword-at g (o ∷ l) zero = refl
reword-at g (o ∷ l) (suc d) = reword-at (λ i. g (suc i)) l d

pub reword-length : (g : ℕ → ℕ) (l : List (Option Domain)) → length (reword_all g l) ≡ length l
reword-length g [] = refl
reword-length g (o ∷ l) = ap suc (reword-length (λ i. g (suc i)) l)

some-reword : (word : ℕ) (o : Option Domain) → is_some (reword_in word o) ≡ is_some o
some-reword word none = refl
some-reword word (some x) = refl

was : (word : ℕ) (o : Option Domain) (y : Domain) → reword_in word o ≡ some y → (x : Domain) × (o ≡ some x) × (y ≡ reword_of word x)
was word none y e = absurd (none-some none y refl e)
was word (some x) y e = (x, refl, cc)

uses-reword : (g : ℕ → ℕ) (l : List (Option Domain)) (i : ℕ) → record_uses (reword_all g l) i ≡ record_uses l i
uses-reword g [] i = refl
uses-reword g (none ∷ l) i = uses-reword (λ d. g (suc d)) l i
uses-reword g (some x ∷ l) i = ap (λ n. count_if (λ (q : Record). eqb i q.slot) x.tracker + n) (uses-reword (λ d. g (suc d)) l i)

-- ---- soundness

module _ (g : ℕ → ℕ) (s : State) (k : Sound s) where
  abbrev ds : List (Option Domain)
  ds = reword_all g s.domains

  alive : (d : ℕ) → is_some (at_slot ds d) ≡ is_some (at_slot s.domains d)
  alive d = ap is_some (reword-at g s.domains d) ∙ some-reword (g d) (at_slot s.domains d)

  alive-on : (d : ℕ) → T (is_some (at_slot s.domains d)) → T (is_some (at_slot ds d))
  alive-on d t = subst T (sym (alive d)) t

  live_on : (h : Handle) → T (is_live s.domain_pool s.domains h) → T (is_live s.domain_pool ds h)
  live_on h t = live-onward s.domain_pool s.domains ds alive-on h t

  back : (d : ℕ) (y : Domain) → In ds d y → (x : Domain) × In s.domains d x × (y ≡ reword_of (g d) x)
  back d y e = was (g d) (at_slot s.domains d) y (sym (reword-at g s.domains d) ∙ e)

  forth : SameManagers s.domains ds
  forth d x e = (reword_of (g d) x, reword-at g s.domains d ∙ ap (reword_in (g d)) e, refl)

  list_on : (l : _) → ListSound s.sizes.slots s.region_pool s.regions s.domain_pool s.domains l → ListSound s.sizes.slots s.region_pool s.regions s.domain_pool ds l
  list_on l h = list-onward s.region_pool s.region_pool s.regions s.regions s.domain_pool s.domain_pool s.domains ds (λ h t. t) (λ h t u. u) (fits-onward s.domain_pool s.domain_pool s.domains ds (λ h t. live-fits s.domain_pool ds h (live_on h t)) (λ i. le_refl _)) s.sizes.slots l h

  pub reword-sound : ((d : ℕ) (x : Domain) → In s.domains d x → Word (g d)) → Sound (reword g s)
  reword-sound w = record {
    outside = record {
      sizes_good = k.outside.sizes_good;
      domains_length = reword-length g s.domains ∙ k.outside.domains_length;
      regions_length = k.outside.regions_length;
      domain_pool = record {
        gens_length = k.outside.domain_pool.gens_length;
        gens_words = k.outside.domain_pool.gens_words;
        once = λ i. ap (λ b. one_if b + count_if (eqb i) s.domain_pool.free) (alive i) ∙ k.outside.domain_pool.once i;
      };
      region_pool = k.outside.region_pool;
      regions = k.outside.regions;
      owners = λ i r e. let o = k.outside.owners i r e in record {
        owner_live = alive-on r.owner o.owner_live;
        one_slot = λ d y f. let (x, n, q) = back d y f in ap (λ (z : Domain). count_if (is_region_of (handle_of s.region_pool i)) z.locals.held) q ∙ o.one_slot d x n;
      };
      managers = λ d y e. let (x, n, q) = back d y e in let o = k.outside.managers d x n in record {
        manager_live = λ m p. alive-on m (o.manager_live m (sym (ap (λ (z : Domain). z.manager) q) ∙ p));
        one_management = λ j v f. let (u, a, b) = back j v f in ap (λ (z : Domain). count_if (is_management_of (handle_of s.domain_pool d)) z.locals.held) b ∙ o.one_management j u a ∙ ap (λ (z : Domain). one_if (names z.manager j)) (sym q);
        managed = managed-onward s.domains ds forth d o.managed;
      };
      lists = λ d y e. let (x, n, q) = back d y e in subst (λ (z : Domain). ListSound s.sizes.slots s.region_pool s.regions s.domain_pool ds z.locals) (sym q) (list_on x.locals (k.outside.lists d x n));
      cores_words = λ d y e. let (x, n, q) = back d y e in subst (λ (z : Domain). Word z.cores) (sym q) (k.outside.cores_words d x n);
      interface_words = λ d y e. let (x, n, q) = back d y e in subst (λ (z : Domain). Word z.interface.word) (sym q) (w d x n);
    };
    tracked = record {
      record_pool = record {
        gens_length = k.tracked.record_pool.gens_length;
        gens_words = k.tracked.record_pool.gens_words;
        once = λ i. ap (λ n. n + count_if (eqb i) s.record_pool.free) (uses-reword g s.domains i) ∙ k.tracked.record_pool.once i;
      };
      trackers = λ d y e. let (x, n, q) = back d y e in subst (λ (z : Domain). TrackerSound s.regions d z.tracker) (sym q) (k.tracked.trackers d x n);
    };
    queue = queue-onward s.sizes.updates s.domain_pool s.domain_pool s.domains ds (fits-onward s.domain_pool s.domain_pool s.domains ds (λ n t. live-fits s.domain_pool ds n (live_on n t)) (λ i. le_refl _)) s.queue k.queue;
  }

-- ---- the words of the tables

-- the interfaces' section; used only in proofs
abbrev pub interface_rows : State → List ℕ
interface_rows s = flat_map (λ i. interface_words (at_slot s.domains i)) (count_up 0 s.sizes.domains)

-- the marks behind it; used only in proofs
abbrev pub mark_rows : State → List ℕ
mark_rows s = flat_map (λ k. mark_words (at_place s.sizes.updates s.queue k)) (count_up 0 (s.sizes.updates + 1))

-- all before it, with these rows for the domains and for the records; used only in proofs
abbrev pub front : State → (ℕ → List ℕ) → (ℕ → List ℕ) → List ℕ
front s f g =
    header_words s
    ++ pool_words s.sizes.domains s.domain_pool
    ++ pool_words s.sizes.regions s.region_pool
    ++ pool_words s.sizes.records s.record_pool
    ++ flat_map f (count_up 0 s.sizes.domains)
    ++ flat_map (region_words s.regions) (count_up 0 s.sizes.regions)
    ++ flat_map g (count_up 0 s.sizes.records)
    ++ flat_map (place_words s.sizes.updates s.queue) (count_up 0 (s.sizes.updates + 1))
    ++ flat_map (λ i. hash_words (at_slot s.regions i)) (count_up 0 s.sizes.regions)

abbrev pub front_words : State → List ℕ
front_words s = front s (λ i. domain_words s.sizes.slots (at_slot s.domains i)) (record_slot_words s.domains)

pub words-split : (s : State) → words s ≡ front_words s ++ interface_rows s ++ mark_rows s
unfolding words
words-split s = refl

pub rows_long : (s : State) → length (interface_rows s) ≡ s.sizes.domains * 2
rows_long s = rows-length 2 (λ i. interface_words (at_slot s.domains i)) (interface-width s.domains) 0 s.sizes.domains

pub front_length : (s : State) → Sound s → length (front_words s) ≡ interfaces_at s.sizes
front_length s k =
    let m = rows-length 1 (λ i. mark_words (at_place s.sizes.updates s.queue i)) (mark-width s.sizes.updates s.queue) 0 (s.sizes.updates + 1) in
    omega (arith, length-append (front_words s) (interface_rows s), length-append (front_words s ++ interface_rows s) (mark_rows s), ap length (words-split s), words-length s k, rows_long s, m)

domain-row : (n word : ℕ) (o : Option Domain) → domain_words n (reword_in word o) ≡ domain_words n o
domain-row n word none = refl
domain-row n word (some x) = refl

record-row : (g : ℕ → ℕ) (l : List (Option Domain)) (i : ℕ) → record_slot_words (reword_all g l) i ≡ record_slot_words l i
record-row g [] i = refl
record-row g (none ∷ l) i = record-row (λ d. g (suc d)) l i
record-row g (some x ∷ l) i = ap (tracker_words i x.tracker) (record-row (λ d. g (suc d)) l i)

pub reword-front : (g : ℕ → ℕ) (s : State) → front_words (reword g s) ≡ front_words s
reword-front g s =
    let domain : (i : ℕ) → domain_words s.sizes.slots (at_slot (reword_all g s.domains) i) ≡ domain_words s.sizes.slots (at_slot s.domains i) = λ i. ap (domain_words s.sizes.slots) (reword-at g s.domains i) ∙ domain-row s.sizes.slots (g i) (at_slot s.domains i) in
    λ j. front s (λ i. domain i j) (λ i. record-row g s.domains i j)
