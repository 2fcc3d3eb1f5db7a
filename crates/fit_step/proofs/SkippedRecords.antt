-- What is skipped are records.
use Rattle.fit_step.proofs.Common.{◌≡◌, cond, ℕ, zero, suc, ◌+◌, ◌<◌, ◌%◌, inl, inr, Bool, true, false, List, [], ◌∷◌, ◌++◌, length, take, refl, sym, ap}
use Rattle.fit_step.proofs.Common.{◌∙◌, subst, arith, length-append, ◌/◌, Some, None, Option, option_and_then, option_map_or, take-add, eqb_tells, append-nil}
use Rattle.fit_step.proofs.Common.{length-take-le, get_or-set_other, IsBytes, IsBytes-take, IsBytes-tail, IsBytes-cons, Defined, MessageDef, Define, Data}
use Rattle.fit_step.proofs.Common.{Values, Environment, defined_at, defined_by, describe, described_by, description, learn, bit, has_reserved_bit}
use Rattle.fit_step.proofs.Common.{is_definition, local_type, message_size, AllFit, record_bytes, records_bytes, IsRecord, size_to_skip, AreSizesToSkip}
use Rattle.fit_step.proofs.Common.{AreTogether, HasSizeOf, Record}
use Rattle.fit_step.proofs.Common.{IsSkipped, Learns, SkipsInSection, PassesInSection, IsInProgress, AreSkipped, ◌≤◌, ◌==◌, drop, slice_index, slice_set, ◌-◌}
use Rattle.fit_step.proofs.Common.{learn_all, CanFill, six_and_more, IsBytes-none, Position, ◌*◌, ◌⊎◌, data_header, replicate}
use Rattle.std.specs.Prelude.{slice_index_or}
use Rattle.std.proofs.lemmas.Grind.{get_or-set_at}
use Rattle.std.proofs.lemmas.List.{get_or-replicate}
use Rattle.fit_record.proofs.RecordLists.{all_fit-append, records_bytes-append, learn_all-append}
use Rattle.fit_step.proofs.HeaderBits.{data_spelled, data_bits, DataBits}
use Rattle.fit_step.proofs.WholeMessage.{data_read, data_record}
use Rattle.fit_step.proofs.RecordsInProgress.{sixteen_learned, sixteen_places, none_come, all_left, next_begins}
use Rattle.fit_step.specs.Skipping.{PassesRecords}
use Rattle.fit_step.specs.inner.Whole.{StandsWhole}

-- ---- one message

off : {X : Type 0} (c : Bool) (x : Option X) → c ≡ false → cond c x None ≡ None
off {X} c x is = ap (λ (d : Bool). cond d x None) is

-- one that is no field description describes nothing
pub learns_nothing : {A : Type 0} (e : Environment A) (v : Values A) (p : Defined A) → defined_at e v.local ≡ Some p
    → (p.definition.global == 206) ≡ false → learn e (Data v) ≡ e
learns_nothing {A} e v p known plain =
    let nothing : described_by e v ≡ None =
    ap (λ o. option_and_then (λ (q : Defined A). description q.definition v) o) known ∙ off (p.definition.global == 206) _ plain in
    ap (describe e) nothing

module _ {A : Type 0} (e : Environment A) (b : ℕ) (rest : List ℕ) (are : IsBytes (b ∷ rest)) (clean : has_reserved_bit b ≡ false)
    (kind : is_definition b ≡ false) where
  one_of : (p : Defined A) → defined_at e (local_type b) ≡ Some p → (p.definition.global == 206) ≡ false → (size : ℕ) → size ≡ 1 + message_size p
      → size ≤ length (b ∷ rest) → IsSkipped e e (take size (b ∷ rest))
  one_of p known plain size long within =
      let n = message_size p in
      let body : List ℕ = take n rest in
      let all : b ∷ body ≡ take size (b ∷ rest) = ap (λ k. take k (b ∷ rest)) (let next : suc n ≡ size = omega (arith, long) in next) in
      let whole = data_record e p b body (IsBytes-cons b body (are zero) (IsBytes-take n rest (IsBytes-tail b rest are))) clean kind known
      (length-take-le n rest (omega (arith, long, within))) in
      let message : Values A = data_read p b body in
      (Data message, subst (IsRecord e (Data message)) all whole, learns_nothing e message p known plain)

  one_skipped : (size : ℕ) → 0 < size → size ≡ size_to_skip e (local_type b) → size ≤ length (b ∷ rest) → IsSkipped e e (take size (b ∷ rest))
  one_skipped size some is within = go (defined_at e (local_type b)) refl is
    where
      at : (p : Defined A) → defined_at e (local_type b) ≡ Some p → (c : Bool) → (p.definition.global == 206) ≡ c → size ≡ cond c 0 (1 + message_size p)
          → IsSkipped e e (take size (b ∷ rest))
      at p known true describes long = absurd (omega (arith, some, long))
      at p known false plain long = one_of p known plain size long within

      go : (o : Option (Defined A)) → defined_at e (local_type b) ≡ o → size ≡ option_map_or (λ p. cond (p.definition.global == 206) 0 (1 + message_size p)) o 0
          → IsSkipped e e (take size (b ∷ rest))
      go None known none = absurd (omega (arith, some, none))
      go (Some p) known long = at p known (p.definition.global == 206) refl long

-- by what is defined
pub size_at : {A : Type 0} (e : Environment A) (local : ℕ) (o : Option (Defined A)) → o ≡ defined_at e local
    → option_map_or (λ (p : Defined A). cond (p.definition.global == 206) 0 (1 + message_size p)) o 0 ≡ size_to_skip e local
size_at {A} e local o is = ap (λ (q : Option (Defined A)). option_map_or (λ p. cond (p.definition.global == 206) 0 (1 + message_size p)) q 0) is

-- ---- one record more

pub one_more : {A : Type 0} (e f after : Environment A) (bytes : List ℕ) (used size count : ℕ) → used + size ≤ length bytes
    → AreSkipped e f (take used bytes) count → IsSkipped f after (take size (drop used bytes))
    → AreSkipped e after (take (used + size) bytes) (count + 1)
one_more e f after bytes used size count within (rs, (are, same), long) (r, is, learnt) =
    let fits = subst (λ k. AllFit k (r ∷ [])) (sym same) (is.0, tt) in
    let spelled : records_bytes e (rs ++ r ∷ []) ≡ take used bytes ++ take size (drop used bytes) =
    records_bytes-append e rs (r ∷ []) ∙ (λ i. sym are.1 i ++ records_bytes (same i) (r ∷ []))
    ∙ ap (λ l. take used bytes ++ l) (append-nil (record_bytes f r) ∙ sym is.1) in (
      rs ++ r ∷ [],
      (
        (all_fit-append e rs (r ∷ []) are.0 fits, sym (spelled ∙ sym (take-add used size bytes))),
        learn_all-append e rs (r ∷ []) ∙ ap (λ k. learn k r) same ∙ learnt,
      ),
      length-append rs (r ∷ []) ∙ ap (λ n. n + 1) long,
    )

-- the one message as a list
pub one_learned : {A : Type 0} (e after : Environment A) (v : Values A) (y : List ℕ) → IsRecord e (Data v) y → learn e (Data v) ≡ after
    → Learns e after y (Data v ∷ [])
one_learned e after v y is stays = (((is.0, tt), is.1 ∙ sym (append-nil (record_bytes e (Data v)))), stays)

-- ---- by the table of sizes

pub table_skipped : {A : Type 0} (e : Environment A) (sizes bytes : List ℕ) (size b : ℕ) (rest : List ℕ) → IsBytes bytes → AreSizesToSkip e sizes
    → 0 < size → size ≤ length bytes → bytes ≡ b ∷ rest → size ≡ slice_index sizes b → IsSkipped e e (take size bytes)
table_skipped e sizes bytes size b rest are told some fits begins is =
    let are_bytes : IsBytes (b ∷ rest) = subst IsBytes begins are in
    let low : b < 256 = are_bytes zero in
    let (clean, kind, long) = told.0 b low (omega (arith, some, is)) in
    subst (λ l. IsSkipped e e (take size l)) (sym begins)
    (one_skipped e b rest are_bytes clean kind size some (is ∙ long) (omega (arith, fits, ap length begins)))

-- none is known
pub no_sizes : {A : Type 0} (e : Environment A) → AreSizesToSkip e (replicate 256 0)
no_sizes e = (
  λ k less some. absurd (omega (arith, some, get_or-replicate {A = ℕ} 256 k 0 0 less)),
  λ local few _ k from below. get_or-replicate {A = ℕ} 256 k 0 0 (omega (arith, few, below)),
)

pub low_local : (c : Bool) (b : ℕ) → cond c (b / 32 % 4) (b % 16) < 16
low_local true b = omega arith
low_local false b = omega arith

-- A data message of a local message type has its number as its record header, or it and a time offset.
headed : (local b : ℕ) (c : Bool) → data_header local (cond c (Some (b % 32)) None) ≡ b → (b ≡ local) ⊎ (b ≡ 128 + 32 * local + b % 32)
headed local b true is = inr (omega (arith, is))
headed local b false is = inl (sym is)

pub heads_type : (local b : ℕ) → b < 256 → has_reserved_bit b ≡ false → is_definition b ≡ false → local_type b ≡ local
    → (b ≡ local) ⊎ (b ≡ 128 + 32 * local + b % 32)
heads_type local b low clean kind type =
    subst (λ n. (b ≡ n) ⊎ (b ≡ 128 + 32 * n + b % 32)) type (headed (local_type b) b (bit 7 b) (data_spelled b low clean kind).1)

pub all_away : (local b : ℕ) → b < 256 → (b ≡ local → ⊥) → (local < 4 → 128 + 32 * local ≤ b → b < 128 + 32 * local + 32 → ⊥)
    → has_reserved_bit b ≡ false → is_definition b ≡ false → local_type b ≡ local → ⊥
all_away local b low none gone clean kind type =
    elim (heads_type local b low clean kind type) [
      | inl same ↦ none same
      | inr long ↦ gone (omega (arith, low, long)) (omega (arith, long)) (omega (arith, long))
    ]

-- and these are all
pub type_heads : (local b : ℕ) → local < 16 → (b ≡ local) ⊎ ((local < 4) × (128 + 32 * local ≤ b) × (b < 128 + 32 * local + 32)) → DataBits b local
type_heads local b low (inl same) = data_bits b local None same low
type_heads local b low (inr (few, from, below)) = data_bits b local (Some (b % 32)) (omega (arith, from, below)) (few, omega arith)

-- the sizes after that of one local message type was put
pub sizes_after : {A : Type 0} (e f : Environment A) (local size : ℕ) (old new : List ℕ) → AreSizesToSkip e old → HasSizeOf local size old new
    → AreTogether new → (0 < size → size ≡ size_to_skip f local) → ((k : ℕ) → (k ≡ local → ⊥) → size_to_skip e k ≡ size_to_skip f k) → AreSizesToSkip f new
sizes_after e f local size old new told put together is others = (
  λ k less some.
      elim (put k less) [
        | inl n ↦ (n.0, n.1, n.3 ∙ is (omega (arith, some, n.3)) ∙ ap (size_to_skip f) (sym n.2))
        | inr m ↦
            elim m [
              | inl n ↦
                  let (clean, kind, long) = told.0 k less (omega (arith, some, n.0)) in
                  (clean, kind, n.0 ∙ long ∙ others (local_type k) (n.1 clean kind))
              | inr none ↦ absurd (omega (arith, some, none))
            ]
      ],
  together,
)

-- One number by the local message type alone leaves those of the other record headers together.
pub together_set : (sizes : List ℕ) (local size : ℕ) → local < 16 → AreTogether sizes → AreTogether (slice_set sizes local size)
together_set sizes local size low together l few none k from below =
    get_or-set_other sizes local k size 0 (λ same. omega (arith, same, low, from))
    ∙ together l few (sym (get_or-set_other sizes local (128 + 32 * l) size 0 (λ same. omega (arith, same, low))) ∙ none) k from below

-- where none is known by the others
pub one_set : (sizes : List ℕ) (local size : ℕ) → length sizes ≡ 256 → local < 16 → AreTogether sizes
    → (local < 4 → slice_index sizes (128 + 32 * local) ≡ 0) → HasSizeOf local size sizes (slice_set sizes local size)
one_set sizes local size long low together none b less =
    elim (eqb_tells b local) [
      | inl same ↦
          let bits = type_heads local b low (inl same.1) in
          inl (bits.clean, bits.kind, bits.type, get_or-set_at sizes local b size 0 same.1 (omega (arith, long, low)))
      | inr other ↦
          let stays : slice_index (slice_set sizes local size) b ≡ slice_index sizes b = get_or-set_other sizes local b size 0 other.1 in
          elim (eqb_tells (slice_index sizes b) 0) [
            | inl unknown ↦ inr (inr (stays ∙ unknown.1))
            | inr some ↦ inr (inl (
              stays,
              all_away local b less other.1 (λ few from below. some.1 (together local few (none few) b from below)),
            ))
          ]
    ]

-- A definition message changes the size of its own local message type alone.
pub others_stay : {A : Type 0} (e : Environment A) (d : MessageDef A) (k : ℕ) → (k ≡ d.local → ⊥)
    → size_to_skip e k ≡ size_to_skip (learn e (Define d)) k
others_stay {A} e d k other =
    size_at (learn e (Define d)) k (defined_at e k) (sym (get_or-set_other e.places d.local k (Some (defined_by e d)) None other))

-- the sizes depend on the places alone
pub sizes_stay : {A : Type 0} (e f : Environment A) (sizes : List ℕ) → f.places ≡ e.places → AreSizesToSkip e sizes → AreSizesToSkip f sizes
sizes_stay {A} e f sizes same told = (
  λ k less some.
      let (clean, kind, is) = told.0 k less some in
      let local = local_type k in (
        clean,
        kind,
        is ∙ size_at f local (defined_at e local) (sym (ap (λ (places : List (Option (Defined A))). slice_index_or places local None) same)),
      ),
  told.1,
)

-- ---- in a data section

pub sixteen_all : {A : Type 0} (e : Environment A) (records : List (Record A)) → length e.places ≡ 16 → length (learn_all e records).places ≡ 16
sixteen_all e [] sixteen = sixteen
sixteen_all e (r ∷ records) sixteen = sixteen_all (learn e r) records (sixteen_learned e r sixteen)

-- six bytes and more can be filled, whatever is known
pub large_fill : {A : Type 0} (e : Environment A) (room : ℕ) → length e.places ≡ 16 → 6 ≤ room → CanFill e room
large_fill e room sixteen large =
    let same : 6 + (room - 6) ≡ room = omega (arith, large) in
    subst (CanFill e) same (six_and_more e (room - 6) (omega (arith, sixteen)))

-- so a record with that much room after it stands whole
pub plain_stands : {A : Type 0} (e : Environment A) (room : ℕ) (piece : List ℕ) (r : Record A) (used : ℕ) → 0 < used → used ≤ length piece
    → used + 6 ≤ room → IsRecord e r (take used piece) → StandsWhole e room piece r used
plain_stands e room piece r used some within large spelled = record {
  some = some;
  within = within;
  enough = omega (arith, large);
  spelled = spelled;
  fills = λ sixteen. large_fill (learn e r) (room - used) (sixteen_learned e r sixteen) (omega (arith, large));
}

-- and one with which the room ends
pub last_stands : {A : Type 0} (e : Environment A) (room : ℕ) (piece : List ℕ) (r : Record A) (used : ℕ) → 0 < used → used ≤ length piece
    → used ≡ room → IsRecord e r (take used piece) → StandsWhole e room piece r used
last_stands e room piece r used some within ends spelled =
    let none : 0 ≡ room - used = omega (arith, ends) in
    record {
      some = some;
      within = within;
      enough = omega (arith, ends);
      spelled = spelled;
      fills = λ sixteen. subst (CanFill (learn e r)) none ([], [], IsBytes-none, (tt, refl), refl);
    }

pub skipped_after : {A : Type 0} (e known : Environment A) (p : Position) (in_progress : Option (Record A)) (piece : List ℕ) (used : ℕ)
    (records : List (Record A)) → in_progress ≡ None → used + 6 ≤ p.room → Learns e known (take used piece) records
    → SkipsInSection e p in_progress known (record p { room = p.room - used }) piece used records
skipped_after e known p in_progress piece used records idle large learns room bytes h =
    let all = all_left e room bytes p in_progress h idle in
    let sixteen : length known.places ≡ 16 = subst (λ k. length k.places ≡ 16) learns.1 (sixteen_all e records (sixteen_places e room bytes p in_progress h)) in
    inr (
      none_come e room bytes p in_progress h idle,
      omega (arith, large, all),
      learns,
      next_begins e room bytes p in_progress h idle known used sixteen (large_fill known (p.room - used) sixteen (omega (arith, large))),
    )

pub none_skipped : {A : Type 0} (e : Environment A) (p : Position) (in_progress : Option (Record A)) (piece : List ℕ)
    → SkipsInSection e p in_progress e p piece 0 []
none_skipped e p in_progress piece room bytes h = inl (refl, refl, refl, refl)

-- nothing was taken
pub none_passed : {A : Type 0} (e : Environment A) (p : Position) (o : Option (Record A)) → PassesInSection e p o e p o [] []
none_passed e p o room bytes h =
    let all : room ≡ room - 0 = omega arith in ([], bytes, append-nil bytes, inl refl, ((tt, refl), refl), subst (λ m. IsInProgress e m bytes p o) all h)

-- Records that are skipped are passed.
pub skipped_passed : {A : Type 0} (e known : Environment A) (p q : Position) (piece : List ℕ) (used : ℕ) (records : List (Record A)) → used ≤ length piece
    → SkipsInSection e p None known q piece used records → PassesInSection e p None known q None (take used piece) records
skipped_passed {A} e known p q piece used records within skip room bytes h =
    elim (skip room bytes h) [
      | inl n ↦
          let nothing : [] ≡ take used piece = ap (λ m. take m piece) (sym n.0) in
          subst (λ y. PassesRecords e known room bytes q None y records) nothing
          (subst (λ rs. PassesRecords e known room bytes q None [] rs) (sym n.1)
          (subst (λ f. PassesRecords {A = A} e f room bytes q None [] []) (sym n.2)
          (subst (λ r. PassesRecords {A = A} e e room bytes r None [] []) (sym n.3) (none_passed e p None room bytes h))))
      | inr m ↦
          let long = length-take-le used piece within in
          let left : room - used ≡ room - length (take used piece) = omega (arith, long) in (
            take used piece,
            [],
            ap (λ b. b ++ take used piece) m.0 ∙ sym (append-nil (take used piece)),
            inr (omega (arith, m.1, long)),
            m.2,
            subst (λ n. IsInProgress known n [] q None) left m.3,
          )
    ]
