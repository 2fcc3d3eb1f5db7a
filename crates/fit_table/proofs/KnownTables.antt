-- Tables of chains that are known from elsewhere, and the first line of each.
use Rattle.fit_table.proofs.Common.{◌≡◌, ◌++◌, ◌∷◌, [], refl, file_events, last_digits, date_after, date_in_year, csv_text, table_events_rows, table_line}
use Rattle.fit_table.proofs.Common.{fields_text, is_blank, escaped, table_of}
use Rattle.std.proofs.Common.{codes}
use Rattle.std.specs.Fmt.{digits}
use Rattle.fit_record.proofs.KnownFiles.{both_architectures, empty_file, one_byte_message}
use Rattle.fit_table.specs.declared.rows.TheConstants.{TABLE_LINE}

first_line : csv_text (table_line ∷ []) ≡ TABLE_LINE.now
unfolding csv_text escaped fields_text is_blank
first_line = refl

empty_file_table : csv_text (table_of (file_events empty_file))
    ≡ codes "file,timestamp,position_lat,position_long,altitude,distance,speed,heart_rate,cadence,power,temperature\n"
unfolding csv_text table_events_rows escaped fields_text is_blank
empty_file_table = refl

one_byte_message_table : csv_text (table_of (file_events one_byte_message)) ≡ TABLE_LINE.now ++ codes "1,,,,,,,,,,\n"
unfolding csv_text table_events_rows escaped fields_text is_blank digits
one_byte_message_table = refl

both_architectures_table : csv_text (table_of (file_events both_architectures))
    ≡ TABLE_LINE.now ++ codes "1,2021-09-08T01:47:11Z,,,,,,120,,,\n1,2021-09-08T01:47:14Z,,,0.0,16.0000,1.00,,,,\n"
unfolding csv_text table_events_rows escaped fields_text is_blank digits last_digits date_after date_in_year
both_architectures_table = refl
