-- The square root worked in long hand, the digit method learnt at school. It serves the proof of `isqrt` alone. Assumes nothing.
use Rattle.std.specs.Prelude.{◌≡◌, ℕ, ◌+◌, ◌*◌, ◌-◌, ◌^◌, ◌≤◌, ◌<◌}
use Rattle.whole.specs.declared.LongHand.{LongHand}

-- what is worked, as it is checked at the end: the root times itself, and the rest
abbrev pub number : LongHand → ℕ
number h = h.root * h.root + h.rest

-- h is the root of n in long hand: the check comes out, and the rest is too small for a root one higher
pub record Worked (n : ℕ) (h : LongHand) : Type 0 where
  pub check : number h ≡ n
  pub small : h.rest ≤ 2 * h.root

-- a pair of bits can be brought down: the root is half a word, so that four times the rest fits a word
pub record Ready (h : LongHand) (pair : ℕ) : Type 0 where
  pub small : h.rest ≤ 2 * h.root
  pub half : h.root < 2 ^ 32
  pub bits : pair < 4

-- n pairs of bits hold all of q, and a word holds them
pub record Enough (q n : ℕ) : Type 0 where
  pub all : q < 2 ^ (2 * n)
  pub some : 0 < n
  pub most : n ≤ 32

-- with n turns left: the number so far, and behind it the word of the bits ahead, is q moved up, so that its last n pairs are those ahead
pub record Underway (q n ahead : ℕ) (h : LongHand) : Type 0 where
  pub parts : number h * 2 ^ 64 + ahead ≡ q * 2 ^ (64 - 2 * n)
  pub small : h.rest ≤ 2 * h.root
  pub word : ahead < 2 ^ 64
  pub most : n ≤ 32
