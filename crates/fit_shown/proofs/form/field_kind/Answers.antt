use Rattle.fit_shown.proofs.form.field_kind.Goals as goal

pub returns-then-is_of_bytes-clause-kind : goal.returns-then-is_of_bytes-clause-kind
returns-then-is_of_bytes-clause-kind c = c.is_of_bytes.ensures.0 c.if-is_of_bytes.true

pub returns-then-is_lone_float-clause-kind : goal.returns-then-is_lone_float-clause-kind
returns-then-is_lone_float-clause-kind c =
    (c.is_lone_float.ensures.class c.if-is_lone_float.true, c.is_lone_float.ensures.width c.if-is_lone_float.true)
