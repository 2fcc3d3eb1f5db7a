-- Short lines without quotes that are spelled anew, one after another.
use Rattle.std.proofs.Common.{◌≡◌, ℕ, ◌+◌, ◌-◌, ◌<◌, ◌≤◌, false, List, [], ◌∷◌, ◌++◌, length}
use Rattle.std.proofs.Common.{get_or, set, drop, take, take-append-drop, append_assoc, sym, ap, ◌∙◌, subst, arith}
use Rattle.std.proofs.lemmas.List.{length-take-le, take-take, take_at, take_more_set, take_rest}
use Rattle.fit_csv_text.specs.inner.Loose.{WritesOn, is_mark}
use Rattle.fit_csv_text.proofs.LooseTexts.{both-go-on, line-goes-on, none-of, run-goes-on}

-- what comes before the end of a line, or before a quote
pub front-goes : (old before after text : List ℕ) (at shown : ℕ) → shown ≤ length text → ((k : ℕ) → k < shown → is_mark (get_or text k 0) ≡ false)
    → take (at + shown) after ≡ take at before ++ take shown text
    → WritesOn text (take (length text - shown) (drop shown text)) (old ++ take at before) (old ++ take (at + shown) after)
front-goes old before after text at shown within plain put =
    let written = old ++ take at before in
    let run = take shown text in
    let more : written ++ run ≡ old ++ take (at + shown) after = append_assoc old (take at before) run ∙ ap (λ (l : List ℕ). old ++ l) (sym put) in
    subst (λ (l : List ℕ). WritesOn text (take (length text - shown) (drop shown text)) written l) more
    (subst (λ (l : List ℕ). WritesOn text l written (written ++ run)) (sym (take_rest text shown))
    (subst (λ (l : List ℕ). WritesOn l (drop shown text) written (written ++ run)) (take-append-drop shown text)
    (run-goes-on written run (drop shown text) (none-of is_mark shown text within plain))))

-- and the end
pub end-goes : (old before after text left rest : List ℕ) (at place : ℕ) → WritesOn text left (old ++ take at before) (old ++ take place after)
    → left ≡ 13 ∷ 10 ∷ rest → place < length after → WritesOn text rest (old ++ take at before) (old ++ take (place + 1) (set after place 10))
end-goes old before after text left rest at place goes is within =
    let some = old ++ take place after in
    let more : some ++ (10 ∷ []) ≡ old ++ take (place + 1) (set after place 10) =
    append_assoc old (take place after) (10 ∷ []) ∙ ap (λ (l : List ℕ). old ++ l) (sym (take_more_set after place 10 within)) in
    subst (λ (l : List ℕ). WritesOn text rest (old ++ take at before) l) more
    (both-go-on text left rest (old ++ take at before) some (some ++ (10 ∷ [])) goes
    (subst (λ (l : List ℕ). WritesOn l rest some (some ++ (10 ∷ []))) (sym is) (line-goes-on some rest)))

-- what stood on a sheet before a place stays there
pub front-stays : (before after more : List ℕ) (at shown : ℕ) → at ≤ length before → take (at + shown) after ≡ take at before ++ more
    → take at before ≡ take at after
front-stays before after more at shown within put =
    sym (sym (take-take at (at + shown) after (omega arith)) ∙ ap (take at) put ∙ take_at (take at before) more at (length-take-le at before within))
