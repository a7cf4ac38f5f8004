-- What a check word tells. Statements; proofs/Seals.antt and proofs/Seen.antt prove them.
use Rattle.std.specs.Prelude.{◌≡◌, ℕ, ◌≤◌, true, false, List, length}
use Rattle.bits.specs.Bytes.{Bytes}
use Rattle.seal.specs.Seal.{body, sealed, is_sealed}
use Rattle.seal.specs.Apart.{apart}

-- what is sealed is found sealed, and nothing else is
unfoldable pub SealedFound : Type 0
SealedFound = (s : List ℕ) → is_sealed (sealed s) ≡ true

unfoldable pub FoundSealed : Type 0
FoundSealed = (s : List ℕ) → Bytes s → is_sealed s ≡ true → s ≡ sealed (body s)

-- bytes that differ from sealed ones in one place, be it in the check word, are not sealed, however many they are
unfoldable pub OneSeen : Type 0
OneSeen = (s t : List ℕ) → Bytes s → Bytes t → length s ≡ length t → is_sealed s ≡ true → apart s t ≡ 1 → is_sealed t ≡ false

-- nor are bytes that differ in two, wherever these stand, where there are at most 260
unfoldable pub TwoSeen : Type 0
TwoSeen = (s t : List ℕ) → Bytes s → Bytes t → length s ≡ length t → length s ≤ 260 → is_sealed s ≡ true → apart s t ≡ 2 → is_sealed t ≡ false
