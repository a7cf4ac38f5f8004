-- A short last sample is refused 2, since the session is open whatever came before. Assumes nothing.
use mathlib.Core.Path.{◌≡◌, refl, sym, ap, ◌∙◌}
use mathlib.Core.Bool.{true, not}
use mathlib.Core.List.{List, [], ◌∷◌, ◌++◌, append-nil, append_assoc}
use Prim.Native.Nat.{ℕ, ◌<◌}
use native.Mathlib.Omega.{arith}
use lib.ListN.{length, replicate}
use borrow.Author.Tests.{ne_eqb}
use Rattle.refusal.specs.declared.Refusal.TheVariants.{WrongLength}
use Rattle.refusal.specs.Verdict.{Verdict, Accepted, Refused}
use Rattle.refusal.proofs.Order.{given, passed}
use Rattle.record.specs.Record.{wrong_length}
use Rattle.sample.specs.Sample.{size}
use Rattle.decision.specs.Decision as decision
use Rattle.session.specs.declared.Session.{Session}
use Rattle.session.specs.Session.{Answer, is_open, refused_with}
use Rattle.sampling.specs.Sample.{sample_call}
use Rattle.sampling.specs.Laws.{SampleUnchanged, StaysOpen}
use Rattle.sampling.proofs.Calls.{call_before}
use Rattle.sampling.proofs.Laws.{sample_unchanged, stays_open}
use Rattle.line.specs.Line.{refusal_text, sample_text}
use Rattle.feed.specs.Output.{lines_of}
use Rattle.feed.specs.Short.{ShortLast}

module _ (x : Session) (s p t out : List ℕ) (o : is_open x ≡ true) where
  short_call : length s < size → sample_call x s p t out ≡ (refused_with x WrongLength, out)
  unfolding wrong_length
  short_call h =
      let n : length s ≡ size → ⊥ = λ e. omega arith in
      call_before x s p t out WrongLength (passed _ _ _ (ap not o) ∙ given _ _ _ tt (ap not (ne_eqb (length s) size n)))

  -- accepted or refused, the session is open afterwards
  still_open : is_open (sample_call x s p t out).0.session ≡ true
  unfolding SampleUnchanged StaysOpen
  still_open = by (sample_call x s p t out).0.verdict refl
    where
      by : (v : Verdict) → (sample_call x s p t out).0.verdict ≡ v → is_open (sample_call x s p t out).0.session ≡ true
      by Accepted e = stays_open x s p t out e
      by (Refused r) e = ap is_open (sample_unchanged x s p t out r e) ∙ o

pub short_last : ShortLast
unfolding ShortLast lines_of
short_last x p t [] s o h =
    ap (λ (a : Answer × List ℕ). sample_text a.0.verdict a.1 ++ []) (short_call x s p t (replicate decision.both_size 0) o h) ∙ append-nil (refusal_text WrongLength)
short_last x p t (a ∷ ss) s o h =
    let answer = sample_call x a p t (replicate decision.both_size 0) in
    let text = sample_text answer.0.verdict answer.1 in
    ap (λ (l : List ℕ). text ++ l) (short_last answer.0.session p t ss s (still_open x a p t (replicate decision.both_size 0) o) h)
    ∙ sym (append_assoc text (lines_of answer.0.session p t ss) (refusal_text WrongLength))
