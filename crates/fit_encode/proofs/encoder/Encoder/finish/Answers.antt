use Rattle.fit_encode.proofs.Common.{rules}
use Rattle.fit_encode.proofs.Common.{◌∙◌, ◌<◌, List, ℕ, refl, ap, subst, length, arith, little_bytes, checksum, Encoding, IsComplete, IsWhole, closing_bytes}
use Rattle.fit_encode.proofs.Common.{data_so_far}
use Rattle.std.proofs.Common.{Global}
use Rattle.fit_encode.proofs.Encoders.{breaks_off, is_whole, sent_so_far, while_open, all_there}
use Rattle.fit_encode.proofs.Sendings.{Appends-as, Breaks-as, went_out}
use Rattle.fit_encode.proofs.encoder.Encoder.finish.Goals as goal

pub returns-then-self-clause-refused : goal.returns-then-self-clause-refused
returns-then-self-clause-refused g c =
    let inv = while_open c.self.inside.finished c.self.inside.failed c.self.invariant c.closed_fault.ensures c.in_default.is in
    let missing = subst (λ (n : ℕ). n < c.self.inside.declared) inv.data_size c.if-self.true in
    λ _. ((refl, subst (λ (e : Encoding Global). length (data_so_far e) < e.declared) c.self.view_is missing), refl, refl)

pub returns-in-Err-clause-written : goal.returns-in-Err-clause-written
returns-in-Err-clause-written g c =
    let inv = while_open c.self.inside.finished c.self.inside.failed c.self.invariant c.closed_fault.ensures c.in_default.is in
    let complete = all_there inv c.if-self.false in
    let bytes = ap (λ (x : List ℕ). little_bytes 2 (checksum x)) (sent_so_far inv) in
    let off = breaks_off c.self.inside.failed c.self.inside.finished inv (omega arith) (Breaks-as bytes c.in-Err.ensures.sends) in
    λ _. rw (← c.self.view_is) (complete, off)

pub returns-clause-ok : goal.returns-clause-ok
returns-clause-ok g c =
    let inv = while_open c.self.inside.finished c.self.inside.failed c.self.invariant c.closed_fault.ensures c.in_default.is in
    let complete = all_there inv c.if-self.false in
    subst (λ (e : Encoding Global). IsComplete e) c.self.view_is complete

pub returns-clause-spelled : goal.returns-clause-spelled
returns-clause-spelled g c =
    let inv = while_open c.self.inside.finished c.self.inside.failed c.self.invariant c.closed_fault.ensures c.in_default.is in
    let spelled = c.in_default-end.ensures in
    let out = went_out spelled.sends inv.held spelled.empty in
    Appends-as _ _ (ap (λ (x : List ℕ). little_bytes 2 (checksum x)) (sent_so_far inv) ∙ ap (λ (e : Encoding Global). closing_bytes e) c.self.view_is) out.0

pub returns-clause-whole : goal.returns-clause-whole
returns-clause-whole g c =
    let inv = while_open c.self.inside.finished c.self.inside.failed c.self.invariant c.closed_fault.ensures c.in_default.is in
    let complete = all_there inv c.if-self.false in
    let old : Encoding Global = record {
      head = c.self.inside.head.items;
      declared = c.self.inside.declared;
      records = c.self.inside.records.items;
      failed = c.self.inside.failed;
      finished = c.self.inside.finished;
    } in
    subst (λ (e : Encoding Global). IsWhole e) c.self.view_is (is_whole old inv.fit complete)

pub returns-clause-works : goal.returns-clause-works
returns-clause-works g c =
    let inv = while_open c.self.inside.finished c.self.inside.failed c.self.invariant c.closed_fault.ensures c.in_default.is in
    let spelled = c.in_default-end.ensures in
    (went_out spelled.sends inv.held spelled.empty).3 (omega arith)

pub invariant_of-self-2 : goal.invariant_of-self-2
invariant_of-self-2 g c = search rules

pub returns-clause-finished : goal.returns-clause-finished
returns-clause-finished g c = search rules
