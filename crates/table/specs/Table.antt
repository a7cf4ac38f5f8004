-- A table: records of one size, one after the other, whose keys strictly rise. What it refuses as bytes and as records, and its bytes.
-- Definitions only.
use Rattle.std.specs.Prelude.{ℕ, zero, suc, ◌*◌, ◌/◌, ◌%◌, List, [], ◌∷◌, ◌++◌, Bool, true, ◌&&◌, not, cond, length, take, drop, leb, ltb, eqb}
use Rattle.bits.specs.Bytes.{fields_in, bytes_from}
use Rattle.bits.specs.Places.{put_from}
use Rattle.bits.specs.Tables.{part}
use Rattle.refusal.specs.Lowest.{Rule, lowest}
use Rattle.refusal.specs.Steps.{kept}
use Rattle.refusal.specs.Written.{no_room, written}
use Rattle.refusal.specs.declared.Refusal.{Refusal}
use Rattle.refusal.specs.declared.Refusal.TheVariants.{NoRoom}
use Rattle.refusal.specs.Verdict.{Verdict}

-- f holds at each number below n
abbrev pub every : ℕ → (ℕ → Bool) → Bool
every zero f = true
every (suc n) f = every n f && f n

-- the bytes of record k, where a record takes w; past the last whole record, none
unfoldable pub part_at : ℕ → List ℕ → ℕ → List ℕ
part_at w s k = cond (ltb k (length s / w)) (part w s k) []

-- what tells one table from another
pub record Table (A : Type 0) : Type 0 where
  -- bytes a record, and the least and the greatest number of records
  pub size : ℕ
  pub fewest : ℕ
  pub most : ℕ
  -- the widths of a record's fields, the fields of a value, and the value of fields
  pub widths : List ℕ
  pub fields_of : A → List ℕ
  pub of_fields : List ℕ → A
  -- what is asked of each record: of its fields as bits, and of its value
  pub clean : List ℕ → Bool
  pub in_range : A → Bool
  -- what strictly rises, and what is asked of the last record besides
  pub key : A → ℕ
  pub ends : A → Bool
  -- what is given where a rule is broken
  pub broken : Refusal

module _ {A : Type 0} (t : Table A) where
  -- ---- the rules, of n records f 0, f 1, .., f (n - 1), and whether the bits of each are right

  unfoldable pub counted : ℕ → Bool
  counted n = leb t.fewest n && leb n t.most

  -- each key is above the one before
  abbrev pub rises : (ℕ → A) → ℕ → Bool
  rises f zero = true
  rises f (suc k) = ltb (t.key (f k)) (t.key (f (suc k)))

  -- record k keeps what is said of each
  unfoldable pub good : (ℕ → A) → (ℕ → Bool) → ℕ → Bool
  good f right k = right k && (t.in_range (f k) && rises f k)

  -- the last one, if there is one, keeps what is said of it
  abbrev pub closed : ℕ → (ℕ → A) → Bool
  closed zero f = true
  closed (suc n) f = t.ends (f n)

  -- n records keep every rule
  unfoldable pub lawful : ℕ → (ℕ → A) → (ℕ → Bool) → Bool
  lawful n f right = counted n && (every n (good f right) && closed n f)

  -- ---- the judge, of bytes

  -- how many whole records
  abbrev pub count : List ℕ → ℕ
  count s = length s / t.size

  -- the fields of record k, and its value; past the last whole record, of zeros
  abbrev pub fields_at : List ℕ → ℕ → List ℕ
  fields_at s k = fields_in t.widths (part_at t.size s k)

  unfoldable pub record_at : List ℕ → ℕ → A
  record_at s k = t.of_fields (fields_at s k)

  unfoldable pub clean_at : List ℕ → ℕ → Bool
  clean_at s k = t.clean (fields_at s k)

  -- whole records, and the rules
  unfoldable pub lawful_in : List ℕ → Bool
  lawful_in s = eqb (length s % t.size) 0 && lawful (count s) (record_at s) (clean_at s)

  -- a table breaks any rule, its byte count included
  abbrev pub broken_in : List ℕ → Bool
  broken_in s = not (lawful_in s)

  abbrev pub judge_rules : List ℕ → List Rule
  judge_rules s = (broken_in s, t.broken) ∷ []

  -- the refusal, or how many records
  abbrev pub answer : Verdict → ℕ → Verdict × ℕ
  answer v n = (v, kept v n 0)

  unfoldable pub judge : List ℕ → Verdict × ℕ
  judge s = answer (lowest (judge_rules s)) (count s)

  -- ---- the writer, of n values, whose parts come in lists; `same` where these have one length

  abbrev pub record_bytes : A → List ℕ
  record_bytes g = bytes_from t.size t.widths (t.fields_of g)

  -- the bytes of record k put over what stood there
  abbrev pub put_at : A → ℕ → List ℕ → List ℕ
  put_at g k out = take (t.size * k) out ++ put_from 0 t.widths (t.fields_of g) (drop (t.size * k) out)

  unfoldable pub bytes_of : ℕ → (ℕ → A) → List ℕ
  bytes_of zero f = []
  bytes_of (suc n) f = bytes_of n f ++ record_bytes (f n)

  -- a value has no bits that could be wrong
  abbrev pub lawful_of : Bool → ℕ → (ℕ → A) → Bool
  lawful_of same n f = same && lawful n f (λ k. true)

  -- "Writers refuse what the reader would, with its number"; 12: output under what a writer writes
  abbrev pub write_rules : Bool → ℕ → (ℕ → A) → List ℕ → List Rule
  write_rules same n f out = (not (lawful_of same n f), t.broken) ∷ (no_room (t.size * n) out, NoRoom) ∷ []

  -- "touching nothing, and never touch bytes past the record"
  unfoldable pub write : Bool → ℕ → (ℕ → A) → List ℕ → Verdict × List ℕ
  write same n f out = written (lowest (write_rules same n f out)) (bytes_of n f) out
