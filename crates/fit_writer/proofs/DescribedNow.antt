-- Developer fields that are described, one after another.
use Rattle.std.proofs.Common.{◌≡◌, ℕ, ◌+◌, ◌<◌, List, ◌∷◌, length, map, drop, get_or, sym, subst}
use Rattle.std.proofs.lemmas.List.{drop_more}
use Rattle.std.specs.Global.{Global}
use Rattle.fit_record.specs.declared.definition.DevDef.{DevDef}
use Rattle.fit_record.specs.declared.message.Record.{Record}
use Rattle.fit_writer.specs.Reading.{entry_naming}
use Rattle.fit_writer.specs.Written.{AreDescribed, IsDescribed}

abbrev pub no_dev : DevDef
no_dev = record { number = 0; size = 0; index = 0 }

module _ (s : List (Record Global)) (fields : List DevDef) (codes : List ℕ) (n : ℕ) (es others : List (List ℕ)) (entry : List ℕ) (some : n < length fields)
    (many : n < length codes) (is : es ≡ entry ∷ others)
  where
    abbrev field : DevDef
    field = get_or fields n no_dev

    abbrev code : ℕ
    code = get_or codes n 0

    -- the first of those that are left, and the others
    pub first_left : AreDescribed s (drop n fields) (drop n codes) (map entry_naming es)
        → IsDescribed s field code (entry_naming entry) × AreDescribed s (drop (n + 1) fields) (drop (n + 1) codes) (map entry_naming others)
    first_left all =
        subst (λ xs. AreDescribed s (field ∷ drop (n + 1) fields) (code ∷ drop (n + 1) codes) (map entry_naming xs)) is
        (subst (λ cs. AreDescribed s (field ∷ drop (n + 1) fields) cs (map entry_naming es)) (drop_more codes n 0 many)
        (subst (λ fs. AreDescribed s fs (drop n codes) (map entry_naming es)) (drop_more fields n no_dev some) all))

    pub left_first : IsDescribed s field code (entry_naming entry) → AreDescribed s (drop (n + 1) fields) (drop (n + 1) codes) (map entry_naming others)
        → AreDescribed s (drop n fields) (drop n codes) (map entry_naming es)
    left_first one rest =
        subst (λ fs. AreDescribed s fs (drop n codes) (map entry_naming es)) (sym (drop_more fields n no_dev some))
        (subst (λ cs. AreDescribed s (field ∷ drop (n + 1) fields) cs (map entry_naming es)) (sym (drop_more codes n 0 many))
        (subst (λ xs. AreDescribed s (field ∷ drop (n + 1) fields) (code ∷ drop (n + 1) codes) (map entry_naming xs)) (sym is) (one, rest)))
