-- "A short last sample prints `x 2`." A statement; proofs/Short.antt proves it.
use Rattle.std.specs.Prelude.{◌≡◌, true, List, [], ◌∷◌, ◌++◌, ℕ, ◌<◌, length}
use Rattle.refusal.specs.declared.Refusal.TheVariants.{WrongLength}
use Rattle.sample.specs.Sample.{size}
use Rattle.session.specs.declared.Session.{Session}
use Rattle.session.specs.Session.{is_open}
use Rattle.line.specs.Line.{refusal_text}
use Rattle.feed.specs.Output.{lines_of}

-- in an open session, which an accepted consist gives, after the lines of any samples, accepted or refused
unfoldable pub ShortLast : Type 0
ShortLast =
    (x : Session) (p t : List ℕ) (ss : List (List ℕ)) (s : List ℕ) → is_open x ≡ true → length s < size
    → lines_of x p t (ss ++ s ∷ []) ≡ lines_of x p t ss ++ refusal_text WrongLength
