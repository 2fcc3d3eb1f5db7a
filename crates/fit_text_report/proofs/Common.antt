-- The names of std, of the crates below and of this crate's specs that several proofs use: each proof takes them from here.
pub use Rattle.std.proofs.Common.{◌≡◌, ◌∙◌, ◌++◌, Bor, length, take, true, false, sym, ap, refl, [], ◌∷◌, arith, subst, inl, inr, zero, suc, ◌≤◌}
pub use Rattle.std.proofs.Common.{◌^◌, Bool, set}
pub use Rattle.std.proofs.lemmas.Bool.{ltb-false, ltb-true}
pub use Rattle.std.proofs.lemmas.List.{reverse-append, reverse-reverse}
pub use Rattle.std.specs.Global.{Global}
pub use Rattle.std.specs.Prelude.{slice_get, option_and_then}
pub use Rattle.fit_chain.specs.Events.{Event, header, item}
pub use Rattle.fit_chain.specs.declared.event.Event.{Event as Answer}
pub use Rattle.fit_profile.specs.Described.{Naming, namings_at}
pub use Rattle.fit_profile.specs.Looks.{known}
pub use Rattle.fit_record.specs.Environment.{defined_at, empty_environment, learn_all}
pub use Rattle.fit_record.specs.Records.{Fits}
pub use Rattle.fit_record.specs.declared.environment.Defined.{Defined}
pub use Rattle.fit_record.specs.declared.message.Record.{Record}
pub use Rattle.fit_record.specs.declared.message.Record.TheVariants.{Values as Data}
pub use Rattle.fit_record.specs.declared.message.Values.{Values}
pub use Rattle.fit_report.specs.Heard.{latest_records, hear, AreHeard}
pub use Rattle.fit_text_report.specs.KeptEvents.{files_heard, next_records, KeptEvents, kept_events}
pub use Rattle.fit_text_report.specs.Current.{AreCurrent, IsCurrent}
