-- Each turn takes one file, or ends the reading.
use Rattle.fit_decode.proofs.Common.{length, sym, ap, ◌∙◌, subst, arith, Global, Consumes, IsViable, chain_limit, IsAfter, IsEnd, short_bytes}
use Rattle.fit_decode.proofs.ChainRead.{chain_ended, chain_stopped, one_longer, one_more, pushed}
use Rattle.fit_decode.specs.Answers.{Seen}
use Rattle.fit_decode.proofs.Consumed.{Consumes-nothing}
use Rattle.fit_decode.proofs.NextRead.{after_none, comes_after, file_not_kept, next_good}
use Rattle.fit_decode.proofs.readers.chain.read_files.Goals as goal

pub returns-then-is_err-clause-err : goal.returns-then-is_err-clause-err
returns-then-is_err-clause-err g c =
    let beyond = c.files.invariant.beyond in
    let r = c.in-Ok.ensures.read c.files.files.items (comes_after c.files.files.items _ _ _ beyond) in
    let more = one_more c.files.files.items _ _ _ c.read_file.new.taken.items _ _ _ _ c.read_file.new.decoder c.read_file.new.count beyond
    c.files.invariant.eats c.in-Ok.ensures.counted
    c.in-Ok.ensures.viable c.in-Ok.file r in
    let good = next_good c.files.files.items _ _ _ c.read_file.new.taken.items _ _ _ c.read_file.new.decoder c.read_file.new.count beyond
    c.in-Ok.ensures.counted c.in-Ok.ensures.viable c.in-Ok.file r in
    let wants = file_not_kept c.files.files.items _ _ _ c.read_file.new.taken.items _ _ _ c.read_file.new.decoder c.read_file.new.count beyond
    c.in-Ok.ensures.counted c.in-Ok.ensures.viable c.in-Ok.file r in
    (c.read_file.new.taken.items, more.1, (more.0.counted, wants, good))

pub files-smaller : goal.files-smaller
files-smaller g c =
    let beyond = c.files.invariant.beyond in
    let r = c.in-Ok.ensures.read c.files.files.items (comes_after c.files.files.items _ _ _ beyond) in
    let longer = one_longer c.files.files.items _ _ _ c.read_file.new.taken.items _ _ _ _ c.read_file.new.decoder c.read_file.new.count beyond
    c.files.invariant.eats c.in-Ok.ensures.counted
    c.in-Ok.ensures.viable c.in-Ok.file r in
    omega (arith, longer, short_bytes c.files.taken.items beyond.viable)

pub files-preserved : goal.files-preserved
files-preserved g c =
    let beyond = c.files.invariant.beyond in
    let r = c.in-Ok.ensures.read c.files.files.items (comes_after c.files.files.items _ _ _ beyond) in
    let more = one_more c.files.files.items _ _ _ c.read_file.new.taken.items _ _ _ _ c.read_file.new.decoder c.read_file.new.count beyond
    c.files.invariant.eats c.in-Ok.ensures.counted
    c.in-Ok.ensures.viable c.in-Ok.file r in
    let items = pushed c.push.result c.is_err.result c.files.files.items c.push.new.self.items c.in-Ok.file c.is_err.ensures.value c.if-is_err.false
    c.push.ensures.items in
    record {
      beyond = subst (λ fs. IsAfter fs c.read_file.new.decoder c.read_file.new.count c.read_file.new.taken.items) (sym items) more.0;
      eats = more.1;
    }

pub returns-then-is_end-clause-ok : goal.returns-then-is_end-clause-ok
returns-then-is_end-clause-ok g c =
    let beyond = c.files.invariant.beyond in
    let r = c.in-Err.ensures.read c.files.files.items (comes_after c.files.files.items _ _ _ beyond) in
    let end = subst (IsEnd Global c.read_file.new.decoder c.in-Err.fault) c.if-is_end.true c.is_end.ensures in
    chain_ended c.files.files.items _ _ _ c.read_file.new.taken.items _ _ _ _ c.read_file.new.decoder c.read_file.new.count beyond c.files.invariant.eats
    c.in-Err.ensures.counted c.in-Err.ensures.viable
    c.in-Err.fault r end

pub returns-in-Err-clause-err : goal.returns-in-Err-clause-err
returns-in-Err-clause-err g c =
    let beyond = c.files.invariant.beyond in
    let r = c.in-Err.ensures.read c.files.files.items (comes_after c.files.files.items _ _ _ beyond) in
    let end = subst (IsEnd Global c.read_file.new.decoder c.in-Err.fault) c.if-is_end.false c.is_end.ensures in
    chain_stopped c.files.files.items _ _ _ c.read_file.new.taken.items _ _ _ _ c.read_file.new.decoder c.read_file.new.count beyond c.files.invariant.eats
    c.in-Err.ensures.counted c.in-Err.ensures.viable
    c.in-Err.fault r end

pub files-init : goal.files-init
files-init g c =
    let had = g.S.Source.remaining c.args.source.now in
    record {
      beyond = subst (λ fs. IsAfter fs c.args.decoder.now 0 c.new-taken.result.items) (sym c.requires.empty)
          (after_none Global c.args.decoder.now c.new-taken.result.items c.requires.fresh c.new-taken.ensures);
      eats = subst (Consumes had had) (sym c.new-taken.ensures) (Consumes-nothing had);
    }

pub read_file-requires : goal.read_file-requires
read_file-requires g c =
    let beyond = c.files.invariant.beyond in (
      omega arith,
      (
        ap (λ (v : Seen). v.refusal) beyond.fed,
        (
          subst (λ (v : Seen). IsViable Global chain_limit v.bytes) (sym beyond.fed) beyond.viable,
          (beyond.counted ∙ ap (λ (v : Seen). length v.bytes) (sym beyond.fed), (c.files.files.items, comes_after c.files.files.items _ _ _ beyond)),
        ),
      ),
    )

pub is_end-requires : goal.is_end-requires
is_end-requires g c = omega arith
