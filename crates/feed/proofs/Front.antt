-- What a loop of reads takes is the front of the known bytes. Assumes nothing.
use Rattle.std.proofs.Common.{◌≡◌, ℕ, ◌≤◌, List, ◌++◌, length, take, drop, sym, ap, subst, ◌∙◌, append-nil, drop_at, drop_of_length-le, Option, Some, None, IfSome}
use Rattle.std.proofs.lemmas.List.{take_at, take_all}
use Rattle.std.specs.Io.KnownBytes.{Consumes, IsAtEnd}
use Rattle.feed.specs.Bytes.{Front}

-- all that was asked came
pub front_full : (a b : Option (List ℕ)) (size : ℕ) (bs : List ℕ) → Consumes a b bs → length bs ≡ size → IfSome a (λ xs. Front xs b size bs)
front_full None b size bs taken long = tt
front_full (Some xs) None size bs taken long = absurd taken
front_full (Some xs) (Some ys) size bs taken long =
    (sym (ap (take size) taken ∙ take_at bs ys size long), ap Some (sym (ap (drop size) taken ∙ drop_at bs ys size long)))

-- or what there was
pub front_end : (a b : Option (List ℕ)) (size : ℕ) (bs : List ℕ) → Consumes a b bs → length bs ≤ size → IsAtEnd b → IfSome a (λ xs. Front xs b size bs)
front_end None b size bs taken short end = tt
front_end (Some xs) None size bs taken short end = absurd taken
front_end (Some xs) (Some ys) size bs taken short end =
    let all : xs ≡ bs = taken ∙ ap (λ l. bs ++ l) end ∙ append-nil bs in
    let fits : length xs ≤ size = subst (λ l. length l ≤ size) (sym all) short in
    (sym all ∙ sym (take_all size xs fits), ap Some (end ∙ sym (drop_of_length-le xs fits)))
