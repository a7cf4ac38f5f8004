-- What reads and writes do to the bytes of a reader and a writer that are known. Definitions only.
use Rattle.std.specs.Prelude.{◌≡◌, ◌≤◌, ℕ, List, ◌++◌, length, take, drop, Option, Some, Result, IsOk, OnOk, IfSome}
use Rattle.std.specs.Io.KnownBytes.{Appends}

-- n bytes came, to the front of a list that holds them
abbrev pub IsPrefixLen : ℕ → List ℕ → Type 0
IsPrefixLen n xs = (n ≤ length xs) × (n ≡ length (take n xs))

-- of these bytes the first came, so many as asked or as there were, and the others are left
abbrev pub Front : List ℕ → Option (List ℕ) → ℕ → List ℕ → Type 0
Front xs left size came = (came ≡ take size xs) × (left ≡ Some (drop size xs))

-- where every read went well to the end, every one had before; and of the bytes, if they are known, something holds
unfoldable pub Known : {E : Type 0} → (before after : Result Unit E) → Option (List ℕ) → (List ℕ → Type 0) → Type 0
Known before after feed P = OnOk after (IsOk before × IfSome feed P)

-- the bytes of a writer grow by what is printed of a feed
abbrev pub Prints : Option (List ℕ) → Option (List ℕ) → Option (List ℕ) → (List ℕ → List ℕ) → Type 0
Prints feed old new output = IfSome feed (λ xs. Appends old new (output xs))

-- of a feed so much is left unread
abbrev pub Leaves : Option (List ℕ) → Option (List ℕ) → (List ℕ → List ℕ) → Type 0
Leaves feed left rest = IfSome feed (λ xs. left ≡ Some (rest xs))

-- from a state with these bytes to read, to another: what is written between is the front of all that is to be written
pub record Follows {A : Type 0} (lines : A → List ℕ → List ℕ) (x : A) (xs : List ℕ) (old : Option (List ℕ)) (y : A) (left new : Option (List ℕ)) : Type 0 where
  pub text : List ℕ
  pub rest : List ℕ
  pub is_left : left ≡ Some rest
  pub written : Appends old new text
  pub front : lines x xs ≡ text ++ lines y rest
