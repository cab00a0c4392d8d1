-- One capability list. Invariant: each slot is in use or free once, and what it holds fits. A change is told by what it does to
-- the count of any test that no free slot passes: a capability put in adds one, one taken out takes one, a sweep takes only invalid ones.
use Rattle.std.specs.Prelude.{◌≡◌, refl, ℕ, suc, ◌+◌, Bool, false, List, [], ◌∷◌, T, set}
use Rattle.std.proofs.Common.{sym, ap, ◌∙◌, arith, length-set, get_or-set_same, get_or-set_other}
use Rattle.std.proofs.Math.Option.{Option, none, some}
use Rattle.std.proofs.Math.Decide.{ℕ_discrete}
use Rattle.base.specs.Cases.{holds, fails, test}
use Rattle.base.specs.Tests.{true-is}
use Rattle.base.specs.Options.{none-some}
use Rattle.model.specs.Lists.{one_if, count_if, at_slot, In}
use Rattle.model.specs.State.{State, Pool, Domain, Region, Capa, LocalList}
use Rattle.model.specs.Locals.{free_local, free_locals, insert_local, is_invalid, invalid_slots, free_invalid_capas}
use Rattle.model.specs.Sound.{ListSound, HandleFit, RevokeFit}
use Rattle.laws.specs.Accepted.{All, accepted, refused}
use Rattle.laws.specs.Tree.Slots.{in-length}
use Rattle.laws.specs.Capas.Slots.{count_set, each_set, next-free, once-take, once-give, once-same}

-- tests that no free slot passes
abbrev pub Test : Type 0
Test = Option Capa → Bool

-- what slot i holds becomes x
abbrev pub written : ℕ → Option Capa → List ℕ → LocalList → LocalList
written i x fs l = record { held = set l.held i x; free = fs }

-- the count of a test when slot i, which held c, becomes x
pub count-written : (p : Test) (l : List (Option Capa)) (i : ℕ) (c : Capa) (x : Option Capa) → In l i c → count_if p (set l i x) + one_if (p (some c)) ≡ count_if p l + one_if (p x)
count-written p l i c x e = omega (arith, count_set p l i x none (in-length l i c e), ap (λ y. one_if (p y)) e)

-- ---- what a list keeps, whatever the tables are

module _ (n : ℕ) (rp : Pool) (rs : List (Option Region)) (dp : Pool) (ds : List (Option Domain)) (l : LocalList) (h : ListSound n rp rs dp ds l) where
  pub free-keeps : (i : ℕ) (c : Capa) → In l.held i c → ListSound n rp rs dp ds (free_local i l)
  free-keeps i c e = record {
    held_length = length-set l.held i none ∙ h.held_length;
    once = once-give n l.held h.held_length i l.free c e h.once;
    revokes_fit = each_set (RevokeFit rp rs) l.held i none tt h.revokes_fit;
    handles_fit = each_set (HandleFit rp rs dp ds) l.held i none tt h.handles_fit;
  }

  pub write_keeps : (i : ℕ) (b c : Capa) → In l.held i b → RevokeFit rp rs (some c) → HandleFit rp rs dp ds (some c) → ListSound n rp rs dp ds (written i (some c) l.free l)
  write_keeps i b c e r f = record {
    held_length = length-set l.held i (some c) ∙ h.held_length;
    once = once-same n l.held h.held_length i l.free b c e h.once;
    revokes_fit = each_set (RevokeFit rp rs) l.held i (some c) r h.revokes_fit;
    handles_fit = each_set (HandleFit rp rs dp ds) l.held i (some c) f h.handles_fit;
  }

-- ---- a capability put in

-- c was put into slot i of l, which was free
pub record Put (c : Capa) (l : LocalList) (i : ℕ) (m : LocalList) : Type 0 where
  pub was_free : at_slot l.held i ≡ none
  pub slots : m.held ≡ set l.held i (some c)
  pub counts : (p : Test) → p none ≡ false → count_if p m.held ≡ count_if p l.held + one_if (p (some c))

insert-go : (n : ℕ) (rp : Pool) (rs : List (Option Region)) (dp : Pool) (ds : List (Option Domain)) (c : Capa) (hs : List (Option Capa)) (fs : List ℕ) → ListSound n rp rs dp ds (record { held = hs; free = fs }) → RevokeFit rp rs (some c) → HandleFit rp rs dp ds (some c) → All (λ x. ListSound n rp rs dp ds x.1 × Put c (record { held = hs; free = fs }) x.0 x.1) (insert_local c (record { held = hs; free = fs }))
unfolding insert_local
insert-go n rp rs dp ds c hs [] h r f = refused
insert-go n rp rs dp ds c hs (i ∷ is) h r f =
    let free = next-free n hs i is h.once in
    accepted {a = (i, record { held = set hs i (some c); free = is })} (
      record {
        held_length = length-set hs i (some c) ∙ h.held_length;
        once = once-take n hs h.held_length i is c h.once;
        revokes_fit = each_set (RevokeFit rp rs) hs i (some c) r h.revokes_fit;
        handles_fit = each_set (HandleFit rp rs dp ds) hs i (some c) f h.handles_fit;
      },
      record {
        was_free = free.0;
        slots = refl;
        counts = λ p z. omega (arith, count_set p hs i (some c) none (omega (arith, h.held_length)), ap (λ x. one_if (p x)) free.0, ap one_if z);
      },
    )

pub insert-keeps : (n : ℕ) (rp : Pool) (rs : List (Option Region)) (dp : Pool) (ds : List (Option Domain)) (c : Capa) (l : LocalList) → ListSound n rp rs dp ds l → RevokeFit rp rs (some c) → HandleFit rp rs dp ds (some c) → All (λ x. ListSound n rp rs dp ds x.1 × Put c l x.0 x.1) (insert_local c l)
insert-keeps n rp rs dp ds c l h r f = insert-go n rp rs dp ds c l.held l.free h r f

-- ---- the sweep

-- From l to m only invalid capabilities went.
pub record Swept (s : State) (l m : LocalList) : Type 0 where
  pub keeps : (n : ℕ) (rp : Pool) (rs : List (Option Region)) (dp : Pool) (ds : List (Option Domain)) → ListSound n rp rs dp ds l → ListSound n rp rs dp ds m
  pub counts : (p : Test) → p none ≡ false → ((c : Capa) → T (is_invalid s c) → p (some c) ≡ false) → count_if p m.held ≡ count_if p l.held
  pub slots : (k : ℕ) (c : Capa) → In m.held k c → In l.held k c

pub swept-self : (s : State) (l : LocalList) → Swept s l l
swept-self s l = record { keeps = λ n rp rs dp ds h. h; counts = λ p z i. refl; slots = λ k c e. e }

swept-then : (s : State) (l m o : LocalList) → Swept s l m → Swept s m o → Swept s l o
swept-then s l m o a b = record {
  keeps = λ n rp rs dp ds h. b.keeps n rp rs dp ds (a.keeps n rp rs dp ds h);
  counts = λ p z i. b.counts p z i ∙ a.counts p z i;
  slots = λ k c e. a.slots k c (b.slots k c e);
}

-- one slot freed
swept-one : (s : State) (l : LocalList) (i : ℕ) (c : Capa) → In l.held i c → T (is_invalid s c) → Swept s l (free_local i l)
swept-one s l i c e t = record {
  keeps = λ n rp rs dp ds h. free-keeps n rp rs dp ds l h i c e;
  counts = λ p z o. omega (arith, count-written p l.held i c none e, ap one_if z, ap one_if (o c t));
  slots = λ k b u. elim (ℕ_discrete k i) [
    | yes o ↦ absurd (none-some (at_slot (set l.held i none) i) b (get_or-set_same l.held i none none (in-length l.held i c e)) (rw o at u))
    | no o ↦ sym (get_or-set_other l.held i k none none o) ∙ u
  ];
}

-- from slot i on the list has the slots m
abbrev From : LocalList → ℕ → List (Option Capa) → Type 0
From l i m = (k : ℕ) → at_slot l.held (i + k) ≡ at_slot m k

from_next : (l : LocalList) (i : ℕ) (x : Option Capa) (m : List (Option Capa)) → From l i (x ∷ m) → From l (suc i) m
from_next l i x m h k = let e : suc i + k ≡ i + suc k = omega arith in rw e (h (suc k))

from-freed : (l : LocalList) (i : ℕ) (m : List (Option Capa)) → From l (suc i) m → From (free_local i l) (suc i) m
from-freed l i m h k = get_or-set_other l.held i (suc i + k) none none (λ e. omega arith) ∙ h k

from-head : (l : LocalList) (i : ℕ) (x : Option Capa) (m : List (Option Capa)) → From l i (x ∷ m) → at_slot l.held i ≡ x
from-head l i x m h = let e : i + 0 ≡ i = omega arith in rw e at (h 0)

sweep-head : (s : State) (i : ℕ) (c : Capa) (m : List (Option Capa)) (l : LocalList) → From l i (some c ∷ m) → ((o : LocalList) → From o (suc i) m → Swept s o (free_locals (invalid_slots s (suc i) m) o)) → Swept s l (free_locals (invalid_slots s i (some c ∷ m)) l)
sweep-head s i c m l h ih = elim (test (is_invalid s c)) [
  | holds t ↦ rw t (swept-then s l (free_local i l) _ (swept-one s l i c (from-head l i (some c) m h) (true-is t)) (ih (free_local i l) (from-freed l i m (from_next l i (some c) m h))))
  | fails t ↦ rw t (ih l (from_next l i (some c) m h))
]

sweep-from : (s : State) (i : ℕ) (m : List (Option Capa)) (l : LocalList) → From l i m → Swept s l (free_locals (invalid_slots s i m) l)
sweep-from s i [] l h = swept-self s l
sweep-from s i (none ∷ m) l h = sweep-from s (suc i) m l (from_next l i none m h)
sweep-from s i (some c ∷ m) l h = sweep-head s i c m l h (λ o k. sweep-from s (suc i) m o k)

pub sweep : (s : State) (l : LocalList) → Swept s l (free_invalid_capas s l)
unfolding free_invalid_capas
sweep s l = sweep-from s 0 l.held l (λ k. let e : 0 + k ≡ k = omega arith in rw e)
