-- "What is written reads back the same, and what is accepted would be written with the same bits." Statements; proofs/RoundTrip.antt proves them.
use Rattle.std.specs.Prelude.{◌≡◌, true, false, List, ℕ, ◌<◌, ◌^◌}
use Rattle.bits.specs.Bytes.{Bytes}
use Rattle.blocks.specs.declared.Blocks.{Blocks}
use Rattle.blocks.specs.Blocks.{is_sound, lay_of, is_broken, bytes_of}

-- of a train whose length and weight are of 15 bits, as a block's are
unfoldable pub WrittenReadsBack : Type 0
WrittenReadsBack =
    (b : Blocks) (length weight : ℕ) → length < 2 ^ 15 → weight < 2 ^ 15 → is_sound b length weight ≡ true
    → (is_broken (bytes_of b) length weight ≡ false) × (lay_of (bytes_of b) ≡ b)

unfoldable pub AcceptedWritesBack : Type 0
AcceptedWritesBack = (s : List ℕ) (length weight : ℕ) → Bytes s → is_broken s length weight ≡ false → bytes_of (lay_of s) ≡ s
