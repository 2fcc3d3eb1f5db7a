-- Records that are passed over have no text where no event has any.
use Rattle.fit_stream.proofs.Common.{◌≡◌, [], ◌∷◌, List, refl, ◌∙◌, Global, Event, text_of, no_line}
use Rattle.std.proofs.lemmas.List.{append-nil}

pub no_text : (heard : List (Event Global)) → text_of no_line heard ≡ []
no_text [] = refl
no_text (x ∷ heard) = append-nil (text_of no_line heard) ∙ no_text heard
