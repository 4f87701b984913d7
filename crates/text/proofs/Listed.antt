-- The words of a text one by one.
use Rattle.std.proofs.Common.{◌≡◌, ℕ, zero, suc, ◌<◌, ◌≤◌, Bool, true, false, cond, List, [], ◌∷◌, length, refl, ap, arith, length-drop, length-take}
use Rattle.std.specs.List.{prefix_len}
use Rattle.std.proofs.lemmas.Bool.{eqb-false, true≢false}
use Rattle.text.specs.Words.{blank, solid, behind, first_word, past_word, ended, first_words, words}

pub past_shorter : (text : List ℕ) → ended text ≡ false → length (past_word text) < length text
past_shorter text e =
    let u : List ℕ = behind blank text in
    omega (arith, eqb-false (length (first_word text)) 0 e, length-take (prefix_len solid u) u, length-drop (prefix_len solid u) u, length-drop (prefix_len blank text) text)

-- as many words as there are bytes are all of them
same_words : (j k : ℕ) (text : List ℕ) → length text ≤ j → length text ≤ k → first_words j text ≡ first_words k text
same_words zero zero text l m = refl
same_words zero (suc k) [] l m = refl
same_words zero (suc k) (b ∷ bs) l m = absurd (omega arith)
same_words (suc j) zero [] l m = refl
same_words (suc j) zero (b ∷ bs) l m = absurd (omega arith)
same_words (suc j) (suc k) text l m = by (ended text) refl (same_words j k (past_word text))
  where
    by : (t : Bool) → ended text ≡ t → (length (past_word text) ≤ j → length (past_word text) ≤ k → first_words j (past_word text) ≡ first_words k (past_word text)) → cond t [] (first_word text ∷ first_words j (past_word text)) ≡ cond t [] (first_word text ∷ first_words k (past_word text))
    by true e same = refl
    by false e same =
        let shorter : length (past_word text) < length text = past_shorter text e in
        ap (λ ws. first_word text ∷ ws) (same (omega arith) (omega arith))

pub words_more : (text : List ℕ) → ended text ≡ false → words text ≡ first_word text ∷ words (past_word text)
words_more [] e = absurd (true≢false e)
words_more (b ∷ bs) e =
    let text : List ℕ = b ∷ bs in
    let shorter : length (past_word text) < length text = past_shorter text e in
    rw e (ap (λ ws. first_word text ∷ ws) (same_words (length bs) (length (past_word text)) (past_word text) (omega arith) (omega arith)))

pub words_none : (text : List ℕ) → ended text ≡ true → words text ≡ []
words_none [] e = refl
words_none (b ∷ bs) e = rw e
