-- What a reader is told of a message that is put.
use Rattle.std.proofs.Common.{◌≡◌, ◌∙◌, ℕ, ◌<◌, Bool, true, false, cond, List, [], ◌∷◌, length, map, refl, ap, ap₂, arith}
use Rattle.std.proofs.lemmas.Bool.{eq-eqb}
use Rattle.std.specs.Global.{Global}
use Rattle.std.specs.Prelude.{◌==◌, Option, Some, None, option_map, option_and_then}
use Rattle.fit_record.specs.declared.definition.DevDef.{DevDef}
use Rattle.fit_record.specs.declared.definition.MessageDef.{MessageDef}
use Rattle.fit_record.specs.declared.environment.Defined.{Defined}
use Rattle.fit_record.specs.declared.message.Record.{Record}
use Rattle.fit_record.specs.declared.message.Record.TheVariants.{Define, Values as Data}
use Rattle.fit_record.specs.declared.message.Values.{Values}
use Rattle.fit_record.specs.Environment.{defined_by, dev_code, dev_defs}
use Rattle.fit_record.specs.Faults.{or_else}
use Rattle.fit_profile.proofs.KnownFacts.{just_defined}
use Rattle.fit_profile.specs.Described.{Naming, namings_at, naming_of}
use Rattle.fit_profile.specs.Looks.{known}
use Rattle.fit_profile.specs.Times.{field_time, header_time, previous_time, time}
use Rattle.fit_writer.specs.Reading.{Form, fields_time, reading_after, reading_by, values_by}
use Rattle.fit_writer.specs.Written.{AreDescribed, SaysSame, WouldSaySame, with_local}
use Rattle.fit_writer.specs.inner.Puts.{told_after}

-- a reading depends on no more of definition and values
same_reading : (d e : MessageDef Global) (a b : List ℕ) (m n : List Naming) (v w : Values Global) (t u : Option ℕ) → d.global ≡ e.global
    → d.fields ≡ e.fields → dev_defs d.dev ≡ dev_defs e.dev → a ≡ b → m ≡ n → v.fields ≡ w.fields → v.dev ≡ w.dev → t ≡ u
    → reading_by d a m v t ≡ reading_by e b n w u
same_reading d e a b m n v w t u global fields dev codes namings items dev_items times = cc

-- Where a place says the same, a message is read there as one of the form.
pub read_there : (s : List (Record Global)) (local : ℕ) (f : Form) (block : List ℕ) (offset : Option ℕ) (p : Defined Global) → SaysSame s local f p
    → reading_after s (values_by f block local offset) ≡ Some (told_after s f block offset)
read_there s local f block offset p same =
    let v : Values Global = values_by f block local offset in
    let w : Values Global = values_by f block 0 None in
    let own : time s (Data v) ≡ or_else (fields_time f block) (header_time (previous_time s) offset) =
    ap (λ o. or_else (option_and_then (λ (q : Defined Global). field_time q.definition v) o) (header_time (previous_time s) offset)) same.defined
    ∙ ap (λ o. or_else o (header_time (previous_time s) offset)) (same_times p.definition f.definition v w same.fields refl) in
    ap (option_map (λ (q : Defined Global). reading_by q.definition q.dev_codes (namings_at s local) v (time s (Data v)))) same.defined
    ∙ ap Some (same_reading p.definition f.definition p.dev_codes f.codes (namings_at s local) f.namings v w (time s (Data v))
    (or_else (fields_time f block) (header_time (previous_time s) offset)) same.global same.fields same.dev same.codes same.namings refl refl own)
  where
    same_times : (d e : MessageDef Global) (v w : Values Global) → d.fields ≡ e.fields → v.fields ≡ w.fields → field_time d v ≡ field_time e w
    same_times d e v w fields items = cc

pub none_long : {X : Type 0} (xs : List X) → length xs ≡ 0 → xs ≡ []
none_long [] h = refl
none_long (x ∷ xs) h = absurd (omega (arith, h))

-- what is described now
described_codes : (s : List (Record Global)) (devs : List DevDef) (codes : List ℕ) (namings : List Naming) → AreDescribed s devs codes namings
    → map (dev_code (known s)) devs ≡ codes
described_codes s [] [] [] all = refl
described_codes s (d ∷ devs) (c ∷ codes) (n ∷ namings) all = ap₂ (λ (a : ℕ) (b : List ℕ). a ∷ b) all.0.0 (described_codes s devs codes namings all.1)
described_codes s [] (c ∷ codes) namings all = absurd all
described_codes s [] [] (n ∷ namings) all = absurd all
described_codes s (d ∷ devs) [] namings all = absurd all
described_codes s (d ∷ devs) (c ∷ codes) [] all = absurd all

described_namings : (s : List (Record Global)) (devs : List DevDef) (codes : List ℕ) (namings : List Naming) → AreDescribed s devs codes namings
    → map (λ (d : DevDef). naming_of s d.index d.number) devs ≡ namings
described_namings s [] [] [] all = refl
described_namings s (d ∷ devs) (c ∷ codes) (n ∷ namings) all =
    ap₂ (λ (a : Naming) (b : List Naming). a ∷ b) all.0.1 (described_namings s devs codes namings all.1)
described_namings s [] (c ∷ codes) namings all = absurd all
described_namings s [] [] (n ∷ namings) all = absurd all
described_namings s (d ∷ devs) [] namings all = absurd all
described_namings s (d ∷ devs) (c ∷ codes) [] all = absurd all

-- A definition says its form as soon as it is there, where its developer fields are described so.
pub says_own : (s : List (Record Global)) (f : Form) (local : ℕ) → local < 16 → WouldSaySame s f
    → SaysSame (Define (with_local f.definition local) ∷ s) local f (defined_by (known s) (with_local f.definition local))
says_own s f local few same =
    let d : MessageDef Global = with_local f.definition local in record {
      defined = just_defined s d few;
      global = refl;
      fields = refl;
      dev = refl;
      codes = described_codes s (dev_defs d.dev) f.codes f.namings same;
      namings = own_namings (local == local) (eq-eqb local local refl) ∙ described_namings s (dev_defs d.dev) f.codes f.namings same;
    }
  where
    own_namings : (b : Bool) → b ≡ true
        → cond b (map (λ (d : DevDef). naming_of s d.index d.number) (dev_defs f.definition.dev)) (namings_at s local)
        ≡ map (λ (d : DevDef). naming_of s d.index d.number) (dev_defs f.definition.dev)
    own_namings true is = refl
    own_namings false is = absurd (cc is)

-- a definition message has no time
pub same_after : (s : List (Record Global)) (d : MessageDef Global) (f : Form) (block : List ℕ) (offset : Option ℕ)
    → told_after (Define d ∷ s) f block offset ≡ told_after s f block offset
same_after s d f block offset = refl
