-- Messages one after another, as their readers are told them.
use Rattle.std.proofs.Common.{◌≡◌, ◌∙◌, ℕ, inl, inr, Bool, true, false, cond, List, [], ◌∷◌, ◌++◌, append_assoc, refl, sym, ap, subst}
use Rattle.std.proofs.lemmas.List.{append-nil}
use Rattle.std.specs.List.{AllByRecursion}
use Rattle.std.specs.Global.{Global}
use Rattle.std.specs.Prelude.{Option, Some, None, nat_lt, option_map, unwrap_or}
use Rattle.fit_record.specs.declared.definition.MessageDef.{MessageDef}
use Rattle.fit_record.specs.declared.message.Record.{Record}
use Rattle.fit_record.specs.declared.message.Record.TheVariants.{Values as Data}
use Rattle.fit_record.specs.declared.message.Values.{Values}
use Rattle.fit_record.specs.Faults.{or_else}
use Rattle.fit_profile.specs.Times.{valid_time}
use Rattle.fit_from_messages.specs.Parts.{number_read}
use Rattle.fit_writer.specs.Describing.{AddsIndex, DescribesEach, DescribesField, DevField, IsAdded, IsDescribing, description_reading, dev_fields}
use Rattle.fit_writer.specs.Describing.{index_reading}
use Rattle.fit_writer.specs.Laws.{PutsAreRead}
use Rattle.fit_writer.specs.Reading.{AllReadAs, Form, IsReadAs, Reading, dated, fields_time, header_time_in, reading_after, readings, said_reading}
use Rattle.fit_writer.specs.Reading.{timestamp_field}
use Rattle.fit_writer.specs.Written.{CanName, DescribesBefore, IsNeeded, with_definition}

all_join : (puts rs others more : List Reading) → AllReadAs puts rs → AllReadAs others more → AllReadAs (puts ++ others) (rs ++ more)
all_join [] [] others more all rest = rest
all_join (p ∷ puts) (q ∷ rs) others more all rest = (all.0, all_join puts rs others more all.1 rest)
all_join [] (q ∷ rs) others more all rest = absurd all
all_join (p ∷ puts) [] others more all rest = absurd all

-- each as itself
all_same : (rs : List Reading) → AllReadAs rs rs
all_same [] = tt
all_same (r ∷ rs) = (inl refl, all_same rs)

-- a definition message tells nothing
same_readings : (d : Option (MessageDef Global)) (before : List (Record Global)) → readings (with_definition d before) ≡ readings before
same_readings None before = refl
same_readings (Some d) before = refl

-- what is told of a form with a timestamp
any_time : (b : Bool) (t : ℕ) → or_else (cond b (Some t) None) (Some t) ≡ Some t
any_time true t = refl
any_time false t = refl

four_bytes : (b : Bool) (n t : ℕ) → cond b (Some n) None ≡ Some t → n ≡ t
four_bytes true n t is = cc
four_bytes false n t is = cc

abbrev stamped : Reading → ℕ → Option ℕ → Reading
stamped r t o = record { global = r.global; fields = timestamp_field t ∷ r.fields; dev = r.dev; time = o }

dated_says : (f : Form) (block : List ℕ) (t : ℕ) → header_time_in block ≡ Some t → fields_time f block ≡ None
    → said_reading (dated f) block ≡ stamped (said_reading f block) t (said_reading f block).time
dated_says f block t told alone =
    let item : number_read 4 32 block ≡ t = four_bytes _ (number_read 4 32 block) t told in
    let own : (said_reading f block).time ≡ Some t = ap (λ (o : Option ℕ). or_else o (header_time_in block)) alone ∙ told in
    ap (λ (o : Option ℕ). stamped (said_reading f block) (number_read 4 32 block) (or_else (valid_time (number_read 4 32 block)) o)) told
    ∙ ap (λ (n : ℕ). stamped (said_reading f block) n (or_else (valid_time n) (Some t))) item
    ∙ ap (stamped (said_reading f block) t) (any_time (nat_lt t 0xFFFFFFFF) t ∙ sym own)

read_as : (before : List (Record Global)) (f g : Form) (block : List ℕ) → IsNeeded before f block g → IsReadAs (said_reading f block) (said_reading g block)
read_as before f g block (inl (never, same)) = inl (ap (λ (h : Form). said_reading h block) same)
read_as before f g block (inr (t, needs, few, less, same)) = inr (
  t,
  ap (λ (o : Option ℕ). or_else o (header_time_in block)) needs.alone ∙ needs.told,
  ap (λ (h : Form). said_reading h block) same ∙ dated_says f block t needs.told needs.alone,
)

-- ---- messages that describe

told_more : (d : Option (MessageDef Global)) (s : List (Record Global)) (v : Values Global) (r : Reading) → reading_after (with_definition d s) v ≡ Some r
    → readings (Data v ∷ with_definition d s) ≡ readings s ++ r ∷ []
told_more d s v r told =
    ap (λ (o : Option Reading). readings (with_definition d s) ++ unwrap_or (option_map (λ r. r ∷ []) o) []) told
    ∙ ap (λ (rs : List Reading). rs ++ r ∷ []) (same_readings d s)

added_more : (s t : List (Record Global)) (local : ℕ) (r : Reading) → IsAdded s t local r → readings t ≡ readings s ++ r ∷ []
added_more s t local r is = ap readings is.records ∙ told_more is.defined s is.message r is.told

-- what was added between
abbrev Added : List (Record Global) → List (Record Global) → Type 0
Added s t = (added : List Reading) × AllByRecursion IsDescribing added × (readings t ≡ readings s ++ added)

none_added : (s t : List (Record Global)) → t ≡ s → Added s t
none_added s t same = ([], tt, ap readings same ∙ sym (append-nil (readings s)))

one_added : (s t : List (Record Global)) (local : ℕ) (r : Reading) → IsDescribing r → IsAdded s t local r → Added s t
one_added s t local r describes is = (r ∷ [], (describes, tt), added_more s t local r is)

both_describe : (xs ys : List Reading) → AllByRecursion IsDescribing xs → AllByRecursion IsDescribing ys → AllByRecursion IsDescribing (xs ++ ys)
both_describe [] ys first second = second
both_describe (x ∷ xs) ys first second = (first.0, both_describe xs ys first.1 second)

then_added : (s t u : List (Record Global)) → Added s t → Added t u → Added s u
then_added s t u (xs, first, is) (ys, second, more) =
    (xs ++ ys, both_describe xs ys first second, more ∙ ap (λ (rs : List Reading). rs ++ ys) is ∙ append_assoc (readings s) xs ys)

index_added : (s t : List (Record Global)) (index : ℕ) → AddsIndex s t index → Added s t
index_added s t index (inl (has, same)) = none_added s t same
index_added s t index (inr (none, is)) = one_added s t 14 (index_reading index) (inl (index, refl)) is

field_added : (s t : List (Record Global)) (x : DevField) → DescribesField s t x → Added s t
field_added s t x (inl (was, same)) = none_added s t same
field_added s t x (inr (never, mid, index, is)) =
    then_added s mid t (index_added s mid x.0.index index)
    (one_added mid t 15 (description_reading x.0 x.1.0 x.1.1) (inr (x.0, x.1.0, x.1.1, refl)) is)

each_added : (s t : List (Record Global)) (xs : List DevField) → DescribesEach s t xs → Added s t
each_added s t [] same = none_added s t same
each_added s t (x ∷ xs) (mid, does, rest) = then_added s mid t (field_added s mid x does) (each_added mid t xs rest)

before_added : (s t : List (Record Global)) (f : Form) (names : ℕ → Type 0) → DescribesBefore s t f names → Added s t
before_added s t f names (inl same) = none_added s t same
before_added s t f names (inr (needs, (each, would))) = each_added s t (dev_fields f) each

pub put_is_read : PutsAreRead
put_is_read before after puts f block all is = go (before_added before is.described is.form (CanName before block) is.describes)
  where
    go : Added before is.described → (added : List Reading) × AllByRecursion IsDescribing added × (readings is.described ≡ readings before ++ added)
        × AllReadAs (puts ++ added ++ said_reading f block ∷ []) (readings after)
    go (added, describe, more) =
        let r : Reading = said_reading is.form block in
        let now : readings after ≡ readings before ++ (added ++ r ∷ []) =
        ap readings is.records ∙ told_more is.defined is.described is.message r is.told
        ∙ ap (λ (rs : List Reading). rs ++ r ∷ []) more ∙ append_assoc (readings before) added (r ∷ []) in
        let all_read : AllReadAs (puts ++ (added ++ said_reading f block ∷ [])) (readings after) =
        subst (AllReadAs (puts ++ (added ++ said_reading f block ∷ []))) (sym now)
        (all_join puts (readings before) (added ++ said_reading f block ∷ []) (added ++ r ∷ []) all
        (all_join added added (said_reading f block ∷ []) (r ∷ []) (all_same added) (read_as before f is.form block is.needed, tt))) in (
          added,
          describe,
          more,
          subst (λ (xs : List Reading). AllReadAs xs (readings after)) (sym (append_assoc puts added (said_reading f block ∷ []))) all_read,
        )
