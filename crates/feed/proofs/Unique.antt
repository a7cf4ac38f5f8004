-- No second output satisfies a run's contract, as the check reads it from the source. Assumes nothing.
use Rattle.std.proofs.Common.{◌≡◌, List, ℕ, ◌++◌, sym, ap, ◌∙◌, subst, Option, Some, None, Result, Ok, Err, OnOk, IsOk}
use mathlib.Core.Bool.{true≢false}
use Rattle.std.specs.Io.KnownBytes.{Appends}
use Rattle.feed.proofs.Known.{if_some}
use Rattle.feed.proofs.try_run.Reads as try_run

on_ok : {E : Type 0} (r : Result Unit E) (P : Type 0) → OnOk r P → IsOk r → P
on_ok (Ok u) P h ok = h
on_ok (Err x) P h ok = absurd (true≢false (sym ok))

appended : (old new : Option (List ℕ)) (before bs : List ℕ) → old ≡ Some before → Appends old new bs → new ≡ Some (before ++ bs)
appended old new before bs e h = by new (subst (λ o. Appends o new bs) e h)
  where
    by : (w : Option (List ℕ)) → Appends (Some before) w bs → w ≡ Some (before ++ bs)
    by (Some ys) k = ap Some k
    by None k = absurd k

-- of known bytes, where it answers that no read and no write failed: what is written, and what is left
pub try_run_one : (R W R_laws W_laws read R_reads write W_writes : _) (κs a r₁ r₂ x₁ x₂ : _)
    → try_run.Post R W R_laws W_laws read R_reads write W_writes κs a r₁ x₁ → try_run.Post R W R_laws W_laws read R_reads write W_writes κs a r₂ x₂
    → (all before : List ℕ) → read.remaining a.0.now ≡ Some all → write.contents a.1.0.now ≡ Some before → IsOk r₁ → IsOk r₂
    → (write.contents x₁.1.0.now ≡ write.contents x₂.1.0.now) × (read.remaining x₁.0.now ≡ read.remaining x₂.0.now)
try_run_one R W R_laws W_laws read R_reads write W_writes κs a r₁ r₂ x₁ x₂ p q all before known held ok₁ ok₂ =
    let said₁ = if_some _ all _ known (on_ok r₁ _ p.0 ok₁) in
    let said₂ = if_some _ all _ known (on_ok r₂ _ q.0 ok₂) in (
      appended _ _ before _ held said₁ ∙ sym (appended _ _ before _ held said₂),
      if_some _ all _ known (on_ok r₁ _ p.1 ok₁) ∙ sym (if_some _ all _ known (on_ok r₂ _ q.1 ok₂)),
    )
