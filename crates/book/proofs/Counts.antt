-- What a region of the book, and one of the tables, counts for; both agree where the regions do.
use Rattle.std.specs.Prelude.{◌≡◌, refl, ℕ, zero, suc, ◌+◌, ◌<◌, Bool, true, false, not, ◌&&◌, ◌||◌, List, [], ◌∷◌, eqb, length, get_or, if◌then◌else◌}
use Rattle.std.proofs.Common.{sym, ap, ◌∙◌, arith}
use Rattle.std.proofs.Math.Bool.{and-false, and_comm}
use Rattle.std.proofs.Math.Option.{Option, none, some}
use Rattle.base.specs.Tests.{true-is}
use Rattle.model.specs.Lists.{one_if, is_some, exists, count_if}
use Rattle.model.specs.State.{Region, Kind, Root, Alias, Carve, parent_of}
use Rattle.model.specs.Counts.{holds, carves, counts_for, tally as region_tally}
use Rattle.laws.specs.Tree.Sum.{sum, sum_same, sum-front}
use Rattle.book.specs.Book.{Noted, noted}
use Rattle.book.specs.Demand3.{covers, carves_at, counts, note_tally, kind_by, SameRegion}

pub record FoundAt {A : Type 0} (p : A → Bool) (d : A) (l : List A) : Type 0 where
  pub at : ℕ
  pub low : at < length l
  pub yes : p (get_or l at d) ≡ true

pub any-get : {A : Type 0} (p : A → Bool) (d : A) (l : List A) → exists p l ≡ true → FoundAt p d l
any-get p d [] h = absurd (true-is h)
any-get p d (x ∷ l) h = go (p x) refl (λ k. any-get p d l k)
  where
    go : (c : Bool) → p x ≡ c → (exists p l ≡ true → FoundAt p d l) → FoundAt p d (x ∷ l)
    go true e ih = record { at = 0; low = omega arith; yes = e }
    go false e ih = let r = ih (sym (ap (λ c. c || exists p l) e) ∙ h) in record { at = suc r.at; low = (let u = r.low in omega arith); yes = r.yes }

pub any-put : {A : Type 0} (p : A → Bool) (d : A) (l : List A) (j : ℕ) → j < length l → p (get_or l j d) ≡ true → exists p l ≡ true
any-put p d [] j u h = absurd (omega arith)
any-put p d (x ∷ l) zero u h = ap (λ c. c || exists p l) h
any-put p d (x ∷ l) (suc j) u h = or_right (p x) (exists p l) (any-put p d l j (omega arith) h)
  where
    or_right : (c e : Bool) → e ≡ true → (c || e) ≡ true
    or_right true e h = refl
    or_right false e h = h

-- ---- the carve test on both sides

abbrev carve_test : Kind → Bool → ℕ → Bool
carve_test kd h i = elim kd [ Root ↦ false | Alias p ↦ false | Carve p ↦ eqb p i && h ]

kind-carve : (kd : Kind) (h : Bool) (f : ℕ → ℕ) (k i : ℕ) → ((p : ℕ) → parent_of kd ≡ some p → eqb p k ≡ eqb (f p) i) → (h && elim kd [ Root ↦ false | Alias p ↦ false | Carve p ↦ eqb p k ]) ≡ carve_test (kind_by f kd) h i
kind-carve Root h f k i e = and-false h
kind-carve (Alias p) h f k i e = and-false h
kind-carve (Carve p) h f k i e = ap (λ c. h && c) (e p refl) ∙ and_comm h (eqb (f p) i)

pub carve-agree : (r : Noted) (g : Region) (f : ℕ → ℕ) (k i a : ℕ) → SameRegion f r g → r.alive ≡ true → ((p : ℕ) → parent_of r.kind ≡ some p → eqb p k ≡ eqb (f p) i) → carves_at k a r ≡ carves i a (some g)
carve-agree r g f k i a s l e =
    ap (λ c. c && holds r.start r.end a && elim r.kind [ Root ↦ false | Alias p ↦ false | Carve p ↦ eqb p k ]) l
    ∙ kind-carve r.kind (holds r.start r.end a) f k i e
    ∙ ap (λ kd. carve_test kd (holds r.start r.end a) i) (sym s.kind)
    ∙ ap (λ c. carve_test g.kind (holds c r.end a) i) (sym s.start)
    ∙ ap (λ c. carve_test g.kind (holds g.start c a) i) (sym s.end)

pub carves-some : (i a : ℕ) (o : Option Region) → carves i a o ≡ true → is_some o ≡ true
carves-some i a none h = h
carves-some i a (some g) h = refl

and-3 : (c d e : Bool) → (c && d && e) ≡ true → c ≡ true
and-3 true d e h = refl
and-3 false d e h = h

pub carves-alive : (k a : ℕ) (r : Noted) → carves_at k a r ≡ true → r.alive ≡ true
carves-alive k a r h = and-3 r.alive (covers a r) _ h

-- ---- sums over a list, and over its places

abbrev pub list_sum : {A : Type 0} → (ℕ → A → ℕ) → ℕ → List A → ℕ
list_sum F i [] = 0
list_sum F i (x ∷ l) = F i x + list_sum F (suc i) l

pub list-tally : {A : Type 0} (F : ℕ → A → ℕ) (d : A) (i : ℕ) (l : List A) → list_sum F i l ≡ sum (λ j. F (i + j) (get_or l j d)) (length l)
list-tally F d i [] = refl
list-tally F d i (x ∷ l) =
    let e : F (i + 0) x ≡ F i x = ap (λ c. F c x) (let z : i + 0 ≡ i = omega arith in z) in
    let h = list-tally F d (suc i) l in
    let q = sum_same (λ j. F (suc i + j) (get_or l j d)) (λ j. F (i + suc j) (get_or l j d)) (length l) (λ j u. ap (λ c. F c (get_or l j d)) (let z : suc i + j ≡ i + suc j = omega arith in z)) in
    let r = sum-front (λ j. F (i + j) (get_or (x ∷ l) j d)) (length l) in
    omega arith

abbrev pub note_counts : List Noted → ℕ → ℕ → (ℕ → Bool) → ℕ → Noted → ℕ
note_counts rs d a t k r = if counts rs d a k r && t r.rights then 1 else 0

abbrev pub slot_counts : List (Option Region) → ℕ → ℕ → (ℕ → Bool) → ℕ → Option Region → ℕ
slot_counts gs d a t i none = 0
slot_counts gs d a t i (some x) = if counts_for gs d a i x && t x.rights then 1 else 0

pub note-list : (rs : List Noted) (d a : ℕ) (t : ℕ → Bool) (i : ℕ) (l : List Noted) → note_tally rs d a t i l ≡ list_sum (note_counts rs d a t) i l
note-list rs d a t i [] = refl
note-list rs d a t i (x ∷ l) = ap (λ c. note_counts rs d a t i x + c) (note-list rs d a t (suc i) l)

pub slot-list : (gs : List (Option Region)) (d a : ℕ) (t : ℕ → Bool) (i : ℕ) (l : List (Option Region)) → region_tally gs d a t i l ≡ list_sum (slot_counts gs d a t) i l
slot-list gs d a t i [] = refl
slot-list gs d a t i (none ∷ l) = let h = slot-list gs d a t (suc i) l in omega arith
slot-list gs d a t i (some x ∷ l) = ap (λ c. slot_counts gs d a t i (some x) + c) (slot-list gs d a t (suc i) l)

-- alive first, then the owner, the range and the carves
pub counts-alive : (rs : List Noted) (d a : ℕ) (t : ℕ → Bool) (k : ℕ) (r : Noted) → 0 < note_counts rs d a t k r → r.alive ≡ true
counts-alive rs d a t k r h = go r.alive refl
  where
    go : (c : Bool) → r.alive ≡ c → r.alive ≡ true
    go true e = e
    go false e = let z : note_counts rs d a t k r ≡ 0 = ap (λ c. if c && eqb r.owner d && covers a r && not (exists (carves_at k a) rs) && t r.rights then 1 else 0) e in absurd (omega arith)

pub counts_some : (gs : List (Option Region)) (d a : ℕ) (t : ℕ → Bool) (i : ℕ) (o : Option Region) → 0 < slot_counts gs d a t i o → is_some o ≡ true
counts_some gs d a t i none h = absurd (omega arith)
counts_some gs d a t i (some x) h = refl

pub counts_same : (rs : List Noted) (gs : List (Option Region)) (d a : ℕ) (t : ℕ → Bool) (k i : ℕ) (f : ℕ → ℕ) (r : Noted) (x : Region) → r.alive ≡ true → SameRegion f r x → exists (carves_at k a) rs ≡ exists (carves i a) gs → note_counts rs d a t k r ≡ slot_counts gs d a t i (some x)
counts_same rs gs d a t k i f r x l s c =
    ap (λ v. if v && eqb r.owner d && covers a r && not (exists (carves_at k a) rs) && t r.rights then 1 else 0) l
    ∙ ap (λ v. if eqb r.owner d && covers a r && not v && t r.rights then 1 else 0) c
    ∙ ap (λ v. if eqb v d && covers a r && not (exists (carves i a) gs) && t r.rights then 1 else 0) (sym s.owner)
    ∙ ap (λ v. if eqb x.owner d && holds v r.end a && not (exists (carves i a) gs) && t r.rights then 1 else 0) (sym s.start)
    ∙ ap (λ v. if eqb x.owner d && holds x.start v a && not (exists (carves i a) gs) && t r.rights then 1 else 0) (sym s.end)
    ∙ ap (λ v. if eqb x.owner d && holds x.start x.end a && not (exists (carves i a) gs) && t v then 1 else 0) (sym s.rights)

-- how many of the book's regions pass a test
pub count-notes : (p : Noted → Bool) (l : List Noted) → count_if p l ≡ sum (λ k. one_if (p (noted l k))) (length l)
count-notes p [] = refl
count-notes p (x ∷ l) = omega (arith, count-notes p l, sum-front (λ k. one_if (p (noted (x ∷ l) k))) (length l))
