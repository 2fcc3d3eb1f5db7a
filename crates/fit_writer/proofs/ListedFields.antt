-- Developer fields, one after another, by their codes and entries.
use Rattle.std.proofs.Common.{◌≡◌, ◌∙◌, ℕ, ◌+◌, ◌<◌, ◌≤◌, List, [], ◌∷◌, ◌++◌, length, drop, get_or, sym, ap, ap₂, subst, append_assoc}
use Rattle.std.proofs.Math.ListN.{drop_of_length-le}
use Rattle.std.proofs.lemmas.List.{append-nil, drop_more, length-map}
use Rattle.std.specs.Global.{Global}
use Rattle.std.specs.List.{AllByRecursion, list_all}
use Rattle.fit_record.specs.declared.message.Record.{Record}
use Rattle.fit_record.specs.Environment.{dev_defs}
use Rattle.fit_from_messages.specs.Parts.{entries_of, entry_stands}
use Rattle.fit_from_messages.specs.declared.alone.LoneDefinition.{LoneDefinition}
use Rattle.fit_writer.proofs.EachDescribed.{by_parts, described_all}
use Rattle.fit_writer.proofs.Namings.{many_entries}
use Rattle.fit_writer.specs.declared.describing.Listed.{Listed}
use Rattle.fit_writer.specs.inner.Places.{IsLone, form_of}
use Rattle.fit_record.specs.declared.definition.DevDef.{DevDef}
use Rattle.fit_writer.proofs.DescribedNow.{no_dev}
use Rattle.fit_writer.specs.Describing.{DescribesEach, DescribesForm, DevField, dev_fields}
use Rattle.fit_writer.specs.Reading.{entry_naming}
use Rattle.fit_writer.specs.inner.Describing.{AreDescribable, IsListed, entry_fields, listed_fields}

-- the one at a place
abbrev pub listed_at : List DevDef → List ℕ → ℕ → List ℕ → DevField
listed_at fields codes n entry = (get_or fields n no_dev, (get_or codes n 0, entry_naming entry))

pub first_listed : (fields : List DevDef) (codes : List ℕ) (n : ℕ) (es others : List (List ℕ)) (entry : List ℕ) → n < length fields → n < length codes
    → es ≡ entry ∷ others
    → entry_fields (drop n fields) (drop n codes) es ≡ listed_at fields codes n entry ∷ entry_fields (drop (n + 1) fields) (drop (n + 1) codes) others
first_listed fields codes n es others entry some many is =
    ap (λ (xs : List (List ℕ)). entry_fields (drop n fields) (drop n codes) xs) is
    ∙ ap₂ (λ (ds : List DevDef) (cs : List ℕ). entry_fields ds cs (entry ∷ others)) (drop_more fields n no_dev some) (drop_more codes n 0 many)

-- of all, the first and the others
pub taken_first : (P : DevField → Type 0) (xs ys : List DevField) (x : DevField) → xs ≡ x ∷ ys → AllByRecursion P xs → P x × AllByRecursion P ys
taken_first P xs ys x is all = subst (AllByRecursion P) is all

pub put_first : (P : DevField → Type 0) (xs ys : List DevField) (x : DevField) → xs ≡ x ∷ ys → P x → AllByRecursion P ys → AllByRecursion P xs
put_first P xs ys x is one rest = subst (AllByRecursion P) (sym is) (one, rest)

-- none is left
pub none_listed : (fields : List DevDef) (codes : List ℕ) (n : ℕ) (es : List (List ℕ)) → length fields ≤ n → entry_fields (drop n fields) (drop n codes) es ≡ []
none_listed fields codes n es past =
    ap (λ (ds : List DevDef). entry_fields ds (drop n codes) es) (drop_of_length-le fields past)

-- one more is done
pub done_more : (all done left rest : List DevField) (x : DevField) → all ≡ done ++ left → left ≡ x ∷ rest → all ≡ (done ++ x ∷ []) ++ rest
done_more all done left rest x is first = is ∙ ap (λ xs. done ++ xs) first ∙ sym (append_assoc done (x ∷ []) rest)

pub all_done : (all done left : List DevField) → all ≡ done ++ left → left ≡ [] → all ≡ done
all_done all done left is none = is ∙ ap (λ xs. done ++ xs) none ∙ append-nil done

-- ---- those of a definition

module _ (d : LoneDefinition) (l : Listed) (lone : IsLone d) (fields : l.fields.now ≡ dev_defs d.definition.dev) (codes : l.codes.now ≡ d.codes)
    (entries : l.entries.now ≡ d.dev.now)
  where
    many : length l.fields.now ≡ length d.codes
    many = ap length fields ∙ sym lone.many

    pub is_listed : IsListed l
    is_listed = record {
      stand = ap₂ (λ (n : ℕ) (bytes : List ℕ). list_all (entry_stands 1) (entries_of n bytes)) many entries ∙ lone.stand;
      many = ap length codes ∙ sym many;
    }

    pub listed_is : listed_fields l ≡ dev_fields (form_of d)
    listed_is =
        ap₂ (λ (ds : List DevDef) (cs : List ℕ). entry_fields ds cs (entries_of (length l.fields.now) l.entries.now)) fields codes
        ∙ ap₂ (λ (n : ℕ) (bytes : List ℕ). entry_fields (dev_defs d.definition.dev) d.codes (entries_of n bytes)) many entries

pub form_described : (s t : List (Record Global)) (d : LoneDefinition) → IsLone d → AreDescribable s (dev_fields (form_of d))
    → DescribesEach s t (dev_fields (form_of d)) → DescribesForm s t (form_of d)
form_described s t d lone can does = (
  does,
  by_parts t (dev_defs d.definition.dev) d.codes (form_of d).namings lone.many
      (length-map (entries_of (length d.codes) d.dev.now) entry_naming ∙ many_entries (length d.codes) d.dev.now ∙ lone.many)
      (described_all s t (dev_fields (form_of d)) can does),
)
