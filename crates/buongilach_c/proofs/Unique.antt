-- No second answer satisfies a contract, over the contracts as the check reads them from the source. Assumes nothing.
use mathlib.Core.Path.{◌≡◌, sym, ap, ◌∙◌}
use mathlib.Core.List.{List}
use Prim.Native.Nat.{ℕ}
use Rattle.lent.specs.Lent.{Sampled}
use Rattle.buongilach_c.proofs.buongilach_open.Reads as buongilach_open
use Rattle.buongilach_c.proofs.buongilach_open_with.Reads as buongilach_open_with
use Rattle.buongilach_c.proofs.buongilach_sample.Reads as buongilach_sample
use Rattle.buongilach_c.proofs.buongilach_is_open.Reads as buongilach_is_open
use Rattle.buongilach_c.proofs.buongilach_application.Reads as buongilach_application
use Rattle.buongilach_c.proofs.buongilach_version.Reads as buongilach_version
use Rattle.buongilach_c.proofs.records.buongilach_write_consist.Reads as buongilach_write_consist
use Rattle.buongilach_c.proofs.records.buongilach_write_manifest.Reads as buongilach_write_manifest
use Rattle.buongilach_c.proofs.records.buongilach_judge_consist.Reads as buongilach_judge_consist
use Rattle.buongilach_c.proofs.records.buongilach_write_profile.Reads as buongilach_write_profile
use Rattle.buongilach_c.proofs.records.buongilach_judge_profile.Reads as buongilach_judge_profile
use Rattle.buongilach_c.proofs.records.buongilach_write_targets.Reads as buongilach_write_targets
use Rattle.buongilach_c.proofs.records.buongilach_judge_targets.Reads as buongilach_judge_targets
use Rattle.buongilach_c.proofs.records.buongilach_write_sample.Reads as buongilach_write_sample
use Rattle.buongilach_c.proofs.records.buongilach_judge_sample.Reads as buongilach_judge_sample
use Rattle.buongilach_c.proofs.records.buongilach_read_decision.Reads as buongilach_read_decision

module _ {L : Type 0} {Given Answer Exit : L → Type 0} (Post : (l : L) → Given l → Answer l → Exit l → Type 0) where
  -- of one input, two answers that the contract allows are one; and so are the bytes, or the numbers, that are lent to be written
  abbrev OneAnswer : Type 0
  OneAnswer = (l : L) (a : Given l) (r₁ r₂ : Answer l) (x₁ x₂ : Exit l) → Post l a r₁ x₁ → Post l a r₂ x₂ → r₁ ≡ r₂

  abbrev One : {Lent : Type 0} → ((l : L) → Exit l → Lent) → Type 0
  One {Lent} lent = (l : L) (a : Given l) (r₁ r₂ : Answer l) (x₁ x₂ : Exit l) → Post l a r₁ x₁ → Post l a r₂ x₂
      → ◌≡◌ {A = Answer l × Lent} (r₁, lent l x₁) (r₂, lent l x₂)

pub buongilach_open_one : One buongilach_open.Post (λ l (session, _). session.now)
buongilach_open_one l a r₁ r₂ x₁ x₂ p q = p ∙ sym q

pub buongilach_open_with_one : One buongilach_open_with.Post (λ l (session, _). session.now)
buongilach_open_with_one l a r₁ r₂ x₁ x₂ p q = p ∙ sym q

pub buongilach_sample_one : One buongilach_sample.Post {Lent = List ℕ × List ℕ} (λ l (session, (_, (_, (_, (decision, _))))). (session.now, decision.now))
buongilach_sample_one l a r₁ r₂ x₁ x₂ p q = ap {B = ℕ × (List ℕ × List ℕ)} (λ ((n, x, d) : Sampled). (n, (x, d))) (p ∙ sym q)

pub buongilach_is_open_one : OneAnswer buongilach_is_open.Post
buongilach_is_open_one l a r₁ r₂ x₁ x₂ p q = p ∙ sym q

pub buongilach_application_one : OneAnswer buongilach_application.Post
buongilach_application_one l a r₁ r₂ x₁ x₂ p q = p ∙ sym q

pub buongilach_version_one : OneAnswer buongilach_version.Post
buongilach_version_one l a r₁ r₂ x₁ x₂ p q = p ∙ sym q

pub buongilach_write_consist_one : One buongilach_write_consist.Post (λ l (_, (_, (_, (_, (_, (_, (_, (_, (_, (out, _)))))))))). out.now)
buongilach_write_consist_one l a r₁ r₂ x₁ x₂ p q = p ∙ sym q

pub buongilach_write_manifest_one : One buongilach_write_manifest.Post (λ l (_, (_, (_, (_, (_, (_, (_, (_, (_, (_, (_, (out, _)))))))))))). out.now)
buongilach_write_manifest_one l a r₁ r₂ x₁ x₂ p q = p ∙ sym q

pub buongilach_judge_consist_one : OneAnswer buongilach_judge_consist.Post
buongilach_judge_consist_one l a r₁ r₂ x₁ x₂ p q = p ∙ sym q

pub buongilach_write_profile_one : One buongilach_write_profile.Post (λ l (_, (_, (_, (out, _)))). out.now)
buongilach_write_profile_one l a r₁ r₂ x₁ x₂ p q = p ∙ sym q

pub buongilach_judge_profile_one : OneAnswer buongilach_judge_profile.Post
buongilach_judge_profile_one l a r₁ r₂ x₁ x₂ p q = p ∙ sym q

pub buongilach_write_targets_one : One buongilach_write_targets.Post (λ l (_, (_, (out, _))). out.now)
buongilach_write_targets_one l a r₁ r₂ x₁ x₂ p q = p ∙ sym q

pub buongilach_judge_targets_one : OneAnswer buongilach_judge_targets.Post
buongilach_judge_targets_one l a r₁ r₂ x₁ x₂ p q = p ∙ sym q

pub buongilach_write_sample_one : One buongilach_write_sample.Post (λ l (_, (_, (_, (_, (_, (_, (out, _))))))). out.now)
buongilach_write_sample_one l a r₁ r₂ x₁ x₂ p q = p ∙ sym q

pub buongilach_judge_sample_one : OneAnswer buongilach_judge_sample.Post
buongilach_judge_sample_one l a r₁ r₂ x₁ x₂ p q = p ∙ sym q

pub buongilach_read_decision_one : One buongilach_read_decision.Post (λ l (_, (numbers, _)). numbers.now)
buongilach_read_decision_one l a r₁ r₂ x₁ x₂ p q = p ∙ sym q
