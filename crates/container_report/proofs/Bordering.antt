-- Chunks shown one after another.
use Rattle.std.proofs.Common.{◌≡◌, ℕ, ◌+◌, ◌<◌, List, ◌++◌, length, get_or, take, drop, sym, ap, ◌∙◌, append_assoc}
use Rattle.std.specs.List.{flat_map}
use Rattle.std.proofs.lemmas.List.{at_drop_more}
use Rattle.container_report.specs.Borders.{cut_up, behind_border}

-- what is shown of the chunks behind the first
abbrev pub others_words : List ℕ → List ℕ → List ℕ
others_words sizes bytes = flat_map behind_border (cut_up sizes bytes)

module _ (done sizes bytes : List ℕ) (i : ℕ) where
  pub others_more : i < length sizes → (done ++ behind_border (take (get_or sizes i 0) bytes)) ++ others_words (drop (i + 1) sizes) (drop (get_or sizes i 0) bytes) ≡ done ++ others_words (drop i sizes) bytes
  others_more h = append_assoc done _ _ ∙ ap (λ l. done ++ l) (sym (at_drop_more (λ ns. others_words ns bytes) sizes i 0 h))
