-- What is kept of developer fields, place by place.
use Rattle.fit_texts.proofs.Common.{◌≡◌, ◌∙◌, zero, suc, [], ◌∷◌, ◌++◌, length, take, get_or, refl, ap, sym, arith, take_more, slice_get}
use Rattle.fit_texts.proofs.Common.{slice_get-get_or, DevDef, Naming, nameless, DevKey, dev_key, dev_keys}
use Rattle.std.proofs.Common.{◌<◌, ◌+◌, ℕ, List}
use Rattle.std.specs.Prelude.{unwrap_or}
use Rattle.fit_texts.proofs.DevFields.{nothing}

-- there is one for each field
pub length-dev_keys : (fields : List DevDef) (coded : List ℕ) (namings : List Naming) → length coded ≡ length fields → length namings ≡ length fields
    → length (dev_keys fields coded namings) ≡ length fields
length-dev_keys [] coded namings more long = refl
length-dev_keys (f ∷ fields) [] namings more long = absurd (omega (arith, more))
length-dev_keys (f ∷ fields) (code ∷ coded) [] more long = absurd (omega (arith, long))
length-dev_keys (f ∷ fields) (code ∷ coded) (n ∷ namings) more long =
    ap suc (length-dev_keys fields coded namings (omega (arith, more)) (omega (arith, long)))

key_at : (fields : List DevDef) (coded : List ℕ) (namings : List Naming) (k : ℕ) (e : DevKey) → k < length fields
    → length coded ≡ length fields → length namings ≡ length fields
    → get_or (dev_keys fields coded namings) k e ≡ dev_key (get_or fields k nothing) (get_or coded k 0) (get_or namings k nameless)
key_at [] coded namings k e within more long = absurd (omega (arith, within))
key_at (f ∷ fields) [] namings k e within more long = absurd (omega (arith, more))
key_at (f ∷ fields) (code ∷ coded) [] k e within more long = absurd (omega (arith, long))
key_at (f ∷ fields) (code ∷ coded) (n ∷ namings) zero e within more long = refl
key_at (f ∷ fields) (code ∷ coded) (n ∷ namings) (suc k) e within more long =
    key_at fields coded namings k e (omega (arith, within)) (omega (arith, more)) (omega (arith, long))

-- that of a developer field
pub key_is : (fields : List DevDef) (coded : List ℕ) (namings : List Naming) (k : ℕ) (e : DevKey) → k < length fields
    → length coded ≡ length fields → length namings ≡ length fields
    → get_or (dev_keys fields coded namings) k e
    ≡ dev_key (get_or fields k nothing) (get_or coded k 0) (unwrap_or (slice_get namings k) nameless)
key_is fields coded namings k e within more long =
    key_at fields coded namings k e within more long
    ∙ ap (λ o. dev_key (get_or fields k nothing) (get_or coded k 0) (unwrap_or o nameless))
    (sym (slice_get-get_or namings k nameless (omega (arith, within, long))))

-- one developer field more
pub keys_taken : (fields : List DevDef) (coded : List ℕ) (namings : List Naming) (k : ℕ) → k < length fields
    → length coded ≡ length fields → length namings ≡ length fields
    → take (k + 1) (dev_keys fields coded namings)
    ≡ take k (dev_keys fields coded namings) ++ (dev_key (get_or fields k nothing) (get_or coded k 0) (unwrap_or (slice_get namings k) nameless) ∷ [])
keys_taken fields coded namings k within more long =
    let keys = dev_keys fields coded namings in
    let none = dev_key nothing 0 nameless in
    take_more keys k none (omega (arith, within, length-dev_keys fields coded namings more long))
    ∙ ap (λ (x : DevKey). take k keys ++ (x ∷ [])) (key_is fields coded namings k none within more long)
