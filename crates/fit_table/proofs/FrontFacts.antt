-- What the rows of a file and a minute begin with.
use Rattle.fit_table.proofs.Common.{◌≡◌, ◌∙◌, ◌++◌, ◌∷◌, [], ◌/◌, ◌%◌, ◌^◌, ap, append_assoc, refl, sym, take}
use Rattle.fit_table.proofs.Common.{instant_text, seconds_text}
use Rattle.std.proofs.Common.{ℕ, ◌<◌, List, decimal}
use Rattle.fit_table.specs.inner.Fronts.{IsFront}
use Rattle.fit_texts.proofs.MinuteFacts.{is_minute}

pub front_of : (file s : ℕ) (text : List ℕ) → s < 2 ^ 32 → 4473924 < s / 60
    → text ≡ (decimal file ++ (44 ∷ [])) ++ take 17 (instant_text s) → IsFront file (s / 60) text
front_of file s text fits late is = λ t below same.
    let begins = take 17 (instant_text s) in
    ap (λ u. decimal file ++ (44 ∷ u)) (is_minute s begins fits late refl t below same)
    ∙ sym (append_assoc (decimal file) (44 ∷ []) (begins ++ seconds_text (t % 60)))
    ∙ sym (append_assoc (decimal file ++ (44 ∷ [])) begins (seconds_text (t % 60)))
    ∙ ap (λ u. u ++ seconds_text (t % 60)) (sym is)
