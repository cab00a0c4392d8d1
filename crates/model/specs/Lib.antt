-- The trusted text. Read this head first. Who has questions then goes by the table in docs/STATEMENTS.md; who reads all goes on with Rights.antt of crate
-- rights, Refusals.antt of crate refusals and the files in the order given there. What is in proofs/Checked is proved of them.
--
-- What it is about. A domain runs a supplier's program. The platform gives it roots: ranges of addresses with rights. Of a region that it owns a domain makes
-- aliases (parent and alias both count there) and carves (the parent counts there no more), sends them to other domains, and revokes them with all below.
-- A domain's reach at an address is the number of regions that it owns, that cover the address and are not carved there; its count of READ, WRITE, EXEC or
-- SUPER is the number of those that have the right. Its tracker stores these numbers in records, range by range; where one comes to or leaves 0, the domain
-- is queued in the update ring, unless it is being closed. What a domain can name stands in the slots of its capability list: a Region is one that it owns; a RegionRevoke one that it
-- may revoke, whoever owns it now; a Management a domain below it, which it may send to and close; a Channel a domain that it may send to. Making gives empty
-- tables. Demand 3: after any calls the stored numbers are those that a book kept from calls and answers alone gives (crate book).
--   Example: A has a root 0 to 16 with rights 3 (READ, WRITE), carves 4 to 8 with rights 1 and sends the carve to B. Reach, READ and WRITE at 5:
--     root  A 1 1 1, B 0 0 0      carved  A 1 1 0, B 0 0 0      sent  A 0 0 0, B 1 1 0      revoked  A 1 1 1, B 0 0 0
--   It is revoked by B, by a RegionRevoke that A or B made while it held the carve, or with a close of B or of whoever holds such a RegionRevoke.
--
-- How to read it. In comments "…" quotes document 01, or document 02 where a request is named, `…` names the Rust or a definition, **…** names a paragraph
-- of document 01, and a number such as 12 is a refusal (crate `refusals` has their names).
--   f : A → B → C             f takes an A and a B and gives a C; below it stand its equations, by the forms of its arguments
--   (x : A) × P x             there is an x with P x (in other crates); a record of a value and facts says likewise: there is one for which they hold
--   (x : A) → P x             for every x. Arguments in braces, as {A : Type 0}, are left out where f is used
--   module _ (x : A) where    each definition below takes x first, and leaves it out where it uses another one of them
--   record R where a : A      a value with named parts, or facts that all hold; x.a is that part, and (f x).a that of f x; f x.a is f of x.a
--   data D where c : A → D    a D is one of the forms listed; where D says a fact, it holds by one of the rules listed
--   (x, y) and A × B          a pair, and the type of pairs; p.0 and p.1 are its halves. Between two facts × is "and"
--   record { a = x; .. }      the record with these parts.  let x = e in f  is f with e for x
--   λ x. e, λ (x, y). e       the function of x that gives e; the function of a pair
--   elim x [ c a ↦ e | .. ]   by the form of x
--   do x ← m; ..              m may refuse, which ends the call; else x is its answer. A line let x = e names e. m >>= λ x. e is the same
--   Option A, none, some a    a value that may be missing;  List A, [], x ∷ l, l ++ m  lists
--   zero, suc n               0 and n + 1
--   x ≡ y, x ≢ y, ¬ P, ⊥, T b  equal, not equal; not; what nothing proves; the test b holds. Unit {0} is the fact that always holds, tt says so
--   eqb, ltb, leb, &&, ||     the tests =, <, ≤; and, or of tests
--   if b then x else y        x where the test b holds, else y; cond b x y is the same
-- `abbrev`, `unfoldable`, `pub`, `infix`, {ℓ}, Type 0 and a type's name before a form's (`Step.Open`) matter to the checker alone. `use` lines tell in
-- which file a name stands; Rattle.std, mathlib, native, borrow and Prim are the kit's.
-- At their edges: get_or l i d is d past the end of l, and get_elem? l i is none; set l i x is l past its end; Option.get_or o d is d where o is none; m - n is 0
-- where n is more than m; m / n is without the rest, which is m % n. Arithmetic signs of one rank are done from left to right. flat_map f l is the lists f x one
-- behind the other. A refusal r has the number `number r`. Records have no update: a function that changes one part says the others again, each
-- from the old value.
-- A name with a capital first is a type, a fact or a form, all capitals a flag: `hash_words` gives words, `HashWords` says that they are below 2^64. The parts
-- of a fact begin small, as those of any record: `RegionSound` has a part hash_words. So do some forms: `ok`, `refuse`, `region`, `permission`, `domain`, `yes`.
-- Letters, mostly: s state, d e domain slots, x domain, h k handles, i slot, g region, p pool or a parent's slot, q tracker record, c capability or child,
-- l local slot or list, r rights or refusal, m marks or manager, f field, o a send's options, u update, w walk, z sizes, n a number; in Memory t are the
-- tables and w is the work area. In Fields, Tracker, Counts and Readings j and k are counts; k is a kind in `new_region`, `add_child`, `siblings`. a is a range
-- with rights in `overlaps` to `check_carve`, Regions, Calls, Perform and CallWords, elsewhere an address. What looks at the state mostly takes it first, what changes it last, and
-- so do readings.
pub mod Lists
pub mod Outcome
pub mod State
pub mod Fields
pub mod Pool
pub mod Locals
pub mod Updates
pub mod Tracker
pub mod Tree
pub mod Regions
pub mod Closing
pub mod Calls
pub mod Counts
pub mod Readings
pub mod Layout
pub mod Making
pub mod Perform
pub mod CallWords
pub mod Sound
pub mod Memory
pub mod Converting
