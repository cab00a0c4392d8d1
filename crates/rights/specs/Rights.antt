-- The rights word (document 01, "The call, from the entry down"): a number below 256, one bit for each of eight flags. The head of Lib.antt of crate model
-- explains the notation.
use Rattle.std.specs.Prelude.{ℕ, ◌/◌, ◌%◌, Bool, eqb}
use Rattle.std.specs.Int.Bits.{bit_and, bit_or}

-- The eight flags, with document 01's values.
abbrev pub READ : ℕ
READ = 1

abbrev pub WRITE : ℕ
WRITE = 2

abbrev pub EXEC : ℕ
EXEC = 4

abbrev pub SUPER : ℕ
SUPER = 8

abbrev pub HASH : ℕ
HASH = 16

abbrev pub CLEANUP : ℕ
CLEANUP = 32

abbrev pub VITAL : ℕ
VITAL = 64

abbrev pub UNCACHEABLE : ℕ
UNCACHEABLE = 128

-- Is this flag set? A flag is a power of two.
abbrev pub has : ℕ → ℕ → Bool
has rights flag = eqb (rights / flag % 2) 1

-- The flags in either word.
abbrev pub union : ℕ → ℕ → ℕ
union a b = bit_or a b

-- Are all flags of the second word in the first?
abbrev pub contains : ℕ → ℕ → Bool
contains a b = eqb (bit_and a b) b

-- The most rights that a child may have: its parent's plus HASH, CLEANUP, VITAL (**Alias**).
abbrev pub with_extras : ℕ → ℕ
with_extras parent = union (union (union parent HASH) CLEANUP) VITAL

-- The rule for a child's rights (**Alias**; `check_ops` of segment.rs).
abbrev pub allowed : ℕ → ℕ → Bool
allowed parent child = contains (with_extras parent) child
