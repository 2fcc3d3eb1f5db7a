-- The turns that read one file.
use Rattle.fit_decode.proofs.Common.{◌≡◌, true, false, ℕ, ◌-◌, ◌<◌, List, [], ◌++◌, length, Some, None, Ok, Err, refl, sym, ap, ◌∙◌, subst, arith, append_assoc}
use Rattle.fit_decode.proofs.Common.{length-append, Consumes, append-nil, FitFile, Record, chain_limit, IsViable, IsBytes-none, Fault, at_header, HasCome}
use Rattle.fit_decode.proofs.Common.{ComesToRecords, Ended, Turned, FaultIn, FileRead, Eaten, unrefused, short_bytes, goes_viable, begins_nothing, unfinished}
use Rattle.std.proofs.Common.{Bool, Option, Result}
use Rattle.fit_frame.specs.declared.header.Header.{Header}
use Rattle.fit_decode.specs.Answers.{Seen}
use Rattle.fit_decode.proofs.Consumed.{Consumes-nothing, Consumes-append}

-- of no bytes, no file and nothing of a next one have come
pub no_file_yet : (A : Type 0) → HasCome {A = A} [] (at_header []) []
no_file_yet A = record { files = tt; next = unfinished A [] (λ h n rest fits is. cc); spelled = refl }

pub nothing_viable : (A : Type 0) → IsViable A chain_limit []
nothing_viable A = goes_viable chain_limit [] (at_header []) [] (no_file_yet A) IsBytes-none (omega arith, omega arith, begins_nothing)

pub stands_before : {A : Type 0} (files : List (FitFile A)) (bytes : List ℕ) → HasCome files (at_header []) bytes → ComesToRecords files None [] bytes
stands_before files bytes come = record { progress = at_header []; come = come; head_is = refl; records_are = refl }

pub eaten_nothing : (old : List ℕ) (had : Option (List ℕ)) (now : Seen) → now.refusal ≡ None → Eaten now.bytes old old had had now
eaten_nothing old had now fresh = record {
  got = [];
  noted = sym (append-nil old);
  eats = Consumes-nothing had;
  fed = (λ i. record { bytes = now.bytes; refusal = fresh i }) ∙ ap unrefused (sym (append-nil now.bytes));
}

module _ {A : Type 0} (files : List (FitFile A)) (bytes old mid taken : List ℕ) (had half has : Option (List ℕ)) (failed : Bool) (now new : Seen)
    (head : Option Header) (records : List (Record A))
    (e : Eaten bytes old mid had half now) where
  module _ (result : Result Bool Fault) (t : Turned files now.bytes mid taken half has failed new head records result) where
    abbrev all : List ℕ
    all = e.got ++ t.got

    notes : taken ≡ old ++ all
    notes = t.noted ∙ ap (λ b. b ++ t.got) e.noted ∙ append_assoc old e.got t.got

    eats_all : Consumes had has all
    eats_all = Consumes-append had half has e.got t.got e.eats t.eats

    same : now.bytes ++ t.got ≡ bytes ++ all
    same = ap (λ (v : Seen). v.bytes ++ t.got) e.fed ∙ append_assoc bytes e.got t.got

  pub eaten_more : Turned files now.bytes mid taken half has failed new head records (Ok false) → Eaten bytes old taken had has new
  eaten_more t = record { got = all (Ok false) t; noted = notes (Ok false) t; eats = eats_all (Ok false) t; fed = t.told.1 ∙ ap unrefused (same (Ok false) t) }

  pub file_ended : (h : Header) → head ≡ Some h → Turned files now.bytes mid taken half has failed new head records (Ok true)
      → FileRead files bytes old taken had has failed new (Ok (record { header = h; records = records }))
  file_ended h is t =
      let k : Header = t.told.1 in
      let both : Some h ≡ Some k = sym is ∙ t.told.2 in
      let one : k ≡ h = cc in
      let ended : Ended files (record { header = k; records = records }) (now.bytes ++ t.got) = t.told.3 in
      record {
        got = all (Ok true) t;
        noted = notes (Ok true) t;
        eats = eats_all (Ok true) t;
        told = (
          t.told.0 ∙ ap unrefused (same (Ok true) t),
          subst (λ b. Ended files (record { header = h; records = records }) b) (same (Ok true) t)
              (subst (λ d. Ended files (record { header = d; records = records }) (now.bytes ++ t.got)) one ended),
          t.told.4,
        );
      }

  pub file_stopped : (fault : Fault) → Turned files now.bytes mid taken half has failed new head records (Err fault)
      → FileRead files bytes old taken had has failed new (Err fault)
  file_stopped fault t = record {
    got = all (Err fault) t;
    noted = notes (Err fault) t;
    eats = eats_all (Err fault) t;
    told = subst (λ b. FaultIn files b has failed new fault) (same (Err fault) t) t.told;
  }

-- a turn goes on
pub goes_on_standing : {A : Type 0} (files : List (FitFile A)) (bytes old taken : List ℕ) (had has : Option (List ℕ)) (failed : Bool) (new : Seen)
    (head : Option Header) (records : List (Record A))
    → Turned files bytes old taken had has failed new head records (Ok false) → ComesToRecords files head records new.bytes
goes_on_standing files bytes old taken had has failed new head records t =
    subst (λ (v : Seen). ComesToRecords files head records v.bytes) (sym t.told.1) t.told.2

pub fewer_left : (A : Type 0) (before after got : List ℕ) → IsViable A chain_limit before → 0 < length got → after ≡ before ++ got
    → 144115188075855872 - length after < 144115188075855872 - length before
fewer_left A before after got viable some is = omega (arith, short_bytes before viable, some, ap length is, length-append before got)
