-- Records after records: they all fit, their bytes stand in a row, and what is known is what all of them teach.
use Rattle.fit_record.proofs.Common.{◌≡◌, List, [], ◌∷◌, ◌++◌, refl, sym, ap, ◌∙◌, append_assoc, Record, Environment, learn, learn_all, record_bytes, AllFit}
use Rattle.fit_record.proofs.Common.{records_bytes}

pub all_fit-append : {A : Type 0} (e : Environment A) (rs ss : List (Record A)) → AllFit e rs → AllFit (learn_all e rs) ss → AllFit e (rs ++ ss)
all_fit-append e [] ss p q = q
all_fit-append e (r ∷ rs) ss p q = (p.0, all_fit-append (learn e r) rs ss p.1 q)

pub records_bytes-append : {A : Type 0} (e : Environment A) (rs ss : List (Record A))
    → records_bytes e (rs ++ ss) ≡ records_bytes e rs ++ records_bytes (learn_all e rs) ss
records_bytes-append e [] ss = refl
records_bytes-append e (r ∷ rs) ss =
    ap (λ b. record_bytes e r ++ b) (records_bytes-append (learn e r) rs ss)
    ∙ sym (append_assoc (record_bytes e r) (records_bytes (learn e r) rs) (records_bytes (learn_all (learn e r) rs) ss))

pub learn_all-append : {A : Type 0} (e : Environment A) (rs ss : List (Record A)) → learn_all e (rs ++ ss) ≡ learn_all (learn_all e rs) ss
learn_all-append e [] ss = refl
learn_all-append e (r ∷ rs) ss = learn_all-append (learn e r) rs ss
