-- Dropping the first n bytes is what the documentation says.
use Rattle.std.proofs.Common.{◌≡◌, ℕ, ◌≤◌, List, length, drop, sym, ap, ◌∙◌, arith, length-drop}
use Rattle.std.proofs.lemmas.List.{drop-drop}
use Rattle.rules.specs.Documented.{Advances}

pub documented : (n : ℕ) (before after : List ℕ) → n ≤ length before → after ≡ drop n before → Advances n before after
documented n before after h e = record {
  moves = λ c is. sym (drop-drop n c.at c.bytes) ∙ ap (drop n) is ∙ sym e;
  falls = omega (arith, ap length e, length-drop n before);
  nothing = λ z. e ∙ ap (λ k. drop k before) z;
}
