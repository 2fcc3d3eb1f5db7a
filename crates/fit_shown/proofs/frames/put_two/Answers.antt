use Rattle.std.proofs.Common.{ℕ, List}
use Rattle.fit_shown.proofs.Common.{◌∙◌, ◌++◌, ◌∷◌, [], ap, default_writer, field_text}
use Rattle.fit_shown.proofs.TwoCells.{two_put}
use Rattle.fit_shown.proofs.frames.put_two.Goals as goal

pub returns : goal.returns
returns c =
    let first = field_text default_writer c.args.first.now in
    let second = field_text default_writer c.args.second.now in
    let before = c.in_ok-push.ensures.items ∙ ap (λ (t : List ℕ). t ++ (44 ∷ [])) c.in_ok-put_lone.ensures.ok in
    let both = c.in_ok-put_lone-2.ensures.ok ∙ ap (λ (t : List ℕ). t ++ second) before in
    c.in_ok-push-2.ensures.items ∙ ap (λ (t : List ℕ). t ++ (44 ∷ [])) both ∙ two_put c.args.text.now.items first second
