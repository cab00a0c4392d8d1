-- Book and tables match: the relation that every call keeps, and from which the claims of demand 3 follow.
use Rattle.std.specs.Prelude.{◌≡◌, refl, ℕ, zero, suc, ◌<◌, true, false, List, [], ◌∷◌, length, get_or, set, replicate}
use Rattle.std.proofs.Common.{ap}
use Rattle.std.proofs.Math.Option
use Rattle.std.proofs.Math.Option.{Option, none, some}
use Rattle.model.specs.Lists.{is_some, at_slot}
use Rattle.model.specs.State.{State, Pool, Handle, Capa, no_capa, region, region_revoke, management, channel, LocalList, Domain, Region, none_region, parent_of}
use Rattle.model.specs.Pool.{is_live, handle_of}
use Rattle.book.specs.Book.{Book, Noted, Held, emptied, region_of, revoke_of, management_of, channel_of, Slots, Opened, noted, open_at}
use Rattle.book.specs.Demand3.{SameRegion}

-- ---- two lists, element by element

pub data Both {A B : Type 0} (R : A → B → Type 0) : List A → List B → Type 0 where
  nil : Both R [] []
  cons : {x : A} {y : B} {xs : List A} {ys : List B} → R x y → Both R xs ys → Both R (x ∷ xs) (y ∷ ys)

module _ {A B : Type 0} where
  pub both-map : {R S : A → B → Type 0} {xs : List A} {ys : List B} → ((x : A) (y : B) → R x y → S x y) → Both R xs ys → Both S xs ys
  both-map f nil = nil
  both-map f (cons r h) = cons (f _ _ r) (both-map f h)

  pub both_at : {R : A → B → Type 0} {xs : List A} {ys : List B} (d : A) (e : B) (i : ℕ) → R d e → Both R xs ys → R (get_or xs i d) (get_or ys i e)
  both_at d e i r nil = r
  both_at d e zero r (cons q h) = q
  both_at d e (suc i) r (cons q h) = both_at d e i r h

  pub both-set : {R : A → B → Type 0} {xs : List A} {ys : List B} (i : ℕ) (x : A) (y : B) → R x y → Both R xs ys → Both R (set xs i x) (set ys i y)
  both-set i x y r nil = nil
  both-set zero x y r (cons q h) = cons r h
  both-set (suc i) x y r (cons q h) = cons q (both-set i x y r h)

  -- only the right list changes
  pub both_right : {R : A → B → Type 0} {xs : List A} {ys : List B} (i : ℕ) (d : A) (y : B) → R (get_or xs i d) y → Both R xs ys → Both R xs (set ys i y)
  both_right i d y r nil = nil
  both_right zero d y r (cons q h) = cons r h
  both_right (suc i) d y r (cons q h) = cons q (both_right i d y r h)

  pub both-length : {R : A → B → Type 0} {xs : List A} {ys : List B} → Both R xs ys → length xs ≡ length ys
  both-length nil = refl
  both-length (cons r h) = ap suc (both-length h)

  pub both-fresh : {R : A → B → Type 0} (n : ℕ) (x : A) (y : B) → R x y → Both R (replicate n x) (replicate n y)
  both-fresh zero x y r = nil
  both-fresh (suc n) x y r = cons r (both-fresh n x y r)

-- ---- slots

-- What a slot holds in the book and in the tables: P holds of a place and its region's handle. A domain is named by the same handle on both sides.
pub data SameHeld (P : ℕ → Handle → Type 0) : Option Held → Option Capa → Type 0 where
  same_free : SameHeld P none none
  same_emptied : SameHeld P (some emptied) (some no_capa)
  same_region : {k : ℕ} {h : Handle} → P k h → SameHeld P (some (region_of k)) (some (region h))
  same_revoke : {k : ℕ} {h : Handle} → P k h → SameHeld P (some (revoke_of k)) (some (region_revoke h))
  same_management : {h : Handle} → SameHeld P (some (management_of h)) (some (management h))
  same_channel : {h : Handle} → SameHeld P (some (channel_of h)) (some (channel h))

pub same_map : {P P' : ℕ → Handle → Type 0} → ((k : ℕ) (h : Handle) → P k h → P' k h) → (x : Option Held) (y : Option Capa) → SameHeld P x y → SameHeld P' x y
same_map f x y same_free = same_free
same_map f x y same_emptied = same_emptied
same_map f x y (same_region p) = same_region (f _ _ p)
same_map f x y (same_revoke p) = same_revoke (f _ _ p)
same_map f x y same_management = same_management
same_map f x y same_channel = same_channel

-- slots that hold the same, and the same stack of free slots
pub record SameSlots (P : ℕ → Handle → Type 0) (l : Slots) (m : LocalList) : Type 0 where
  pub held : Both (SameHeld P) l.held m.held
  pub stack : l.free ≡ m.free

-- a domain is open in the book where it is live in the tables, with the same slots
pub data SameList (P : ℕ → Handle → Type 0) : Option Opened → Option Domain → Type 0 where
  not_opened : SameList P none none
  is_opened : {o : Opened} {x : Domain} → SameSlots P o.slots x.locals → SameList P (some o) (some x)

module _ {P P' : ℕ → Handle → Type 0} (f : (k : ℕ) (h : Handle) → P k h → P' k h) where
  slots_map : (l : Slots) (m : LocalList) → SameSlots P l m → SameSlots P' l m
  slots_map l m h = record { held = both-map (same_map f) h.held; stack = h.stack }

  pub list-map : (x : Option Opened) (y : Option Domain) → SameList P x y → SameList P' x y
  list-map x y not_opened = not_opened
  list-map x y (is_opened h) = is_opened (slots_map _ _ h)

-- ---- the relation

-- the place k stands at the handle h
abbrev pub AtPlace : List Noted → (ℕ → Handle) → ℕ → Handle → Type 0
AtPlace rs at k h = (k < length rs) × h ≡ at k

-- `at` gives the slot and generation in which the region of a place stands or stood, `place` the place of what stands in a slot.
pub record Regions (rs : List Noted) (p : Pool) (gs : List (Option Region)) (at : ℕ → Handle) (place : ℕ → ℕ) : Type 0 where
  -- alive in the book is live in the tables; a handle of a dead one is older than its slot's generation
  pub alive_is_live : (k : ℕ) → k < length rs → (noted rs k).alive ≡ is_live p gs (at k)
  pub dead_is_older : (k : ℕ) → k < length rs → (noted rs k).alive ≡ false → (at k).generation < get_or p.gens (at k).slot 0
  -- a live region is stored as the book has it, and stored ones are the book's
  pub stored : (k : ℕ) → k < length rs → (noted rs k).alive ≡ true → SameRegion (λ j. (at j).slot) (noted rs k) (Option.get_or (at_slot gs (at k).slot) none_region)
  pub back : (i : ℕ) → is_some (at_slot gs i) ≡ true → (place i < length rs) × at (place i) ≡ handle_of p i
  pub one : (k : ℕ) → k < length rs → (noted rs k).alive ≡ true → place (at k).slot ≡ k
  -- a parent comes first, and lives while its child does
  pub parent_earlier : (k q : ℕ) → k < length rs → parent_of (noted rs k).kind ≡ some q → q < k
  pub parent_lives : (k q : ℕ) → k < length rs → (noted rs k).alive ≡ true → parent_of (noted rs k).kind ≡ some q → (noted rs q).alive ≡ true
  -- no root dies: what the total of demand 3 needs
  pub roots_live : (k : ℕ) → k < length rs → parent_of (noted rs k).kind ≡ none → (noted rs k).alive ≡ true

-- The same sizes, the regions matched, each domain's slots the same, and an open domain's generation that of its slot.
pub record MatchesAt (b : Book) (s : State) (at : ℕ → Handle) (place : ℕ → ℕ) : Type 0 where
  pub sizes : b.sizes ≡ s.sizes
  pub regions : Regions b.regions s.region_pool s.regions at place
  pub lists : Both (SameList (AtPlace b.regions at)) b.lists s.domains
  pub generations : (d : ℕ) → is_some (at_slot s.domains d) ≡ true → (open_at b d).generation ≡ get_or s.domain_pool.gens d 0

-- Book and tables match: at some handles and places.
pub record Matches (b : Book) (s : State) : Type 0 where
  pub at : ℕ → Handle
  pub place : ℕ → ℕ
  pub fits : MatchesAt b s at place

pub matches : (b : Book) (s : State) (at : ℕ → Handle) (place : ℕ → ℕ) → MatchesAt b s at place → Matches b s
matches b s at place m = record { at = at; place = place; fits = m }
