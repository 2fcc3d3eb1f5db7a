use Rattle.fit_table.proofs.Common.{◌∙◌, ◌++◌, ◌∷◌, [], ap, ap₂, refl, sym, default_writer, needs_quotes, instant_text}
use Rattle.std.proofs.Common.{append-nil, List, ℕ}
use Rattle.fit_texts.proofs.AddedCells.{first_plain}
use Rattle.fit_table.proofs.front.put_first.Goals as goal

pub returns : goal.returns
returns c =
    let time = instant_text c.in-Some.time in
    let own = c.as_bytes.ensures.value ∙ c.as_str.ensures.value ∙ c.time_text.ensures.text in
    let plain = ap (needs_quotes default_writer) (sym c.time_text.ensures.text) ∙ c.time_text.ensures.plain in
    let before = c.in_ok-push.ensures.items ∙ ap (λ (t : List ℕ). t ++ (44 ∷ [])) c.in_ok-put_whole.ensures.ok in
    rw c.in-Some.is
    (c.in_ok-extend_from_slice.ensures.items ∙ ap₂ (λ (a b : List ℕ). a ++ b) before own ∙ first_plain c.args.text.now.items c.args.file time plain)

pub returns-in_default : goal.returns-in_default
returns-in_default c =
    let before = c.in_ok-push.ensures.items ∙ ap (λ (t : List ℕ). t ++ (44 ∷ [])) c.in_ok-put_whole.ensures.ok in
    rw c.in_default.is (before ∙ sym (append-nil _) ∙ first_plain c.args.text.now.items c.args.file [] refl)
