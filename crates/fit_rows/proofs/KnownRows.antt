-- Rows of chains that are known from elsewhere.
use Rattle.fit_rows.proofs.Common.{◌≡◌, ◌++◌, refl, [], ◌∷◌, is_utf8, chars, last_digits, hex_digits, date_after, date_in_year, csv_text, chain_rows, end_row}
use Rattle.fit_rows.proofs.Common.{field_row, file_row, records_rows, escaped, fields_text, is_blank}
use Rattle.std.proofs.Common.{ℕ, codes}
use Rattle.std.specs.Fmt.{digits}
use lib.Utf8.{encode}
use Rattle.fit_record.proofs.KnownFiles.{both_architectures, described_field, empty_file}
use Rattle.fit_frame.specs.declared.header.HeaderSum.TheVariants as sums

-- a file without records
empty_file_rows : csv_text (chain_rows (empty_file ∷ [])) ≡ codes "row,a,b,c,d,e,f\nfile,14,32,0,sum,,\nend,,,,,,\n"
unfolding csv_text records_rows escaped fields_text is_blank digits
empty_file_rows = refl

-- the row that ends a file
pub end_put : csv_text (end_row ∷ []) ≡ codes "end,,,,,,\n"
unfolding csv_text escaped fields_text is_blank
end_put = refl

-- a header of 16 bytes
longer_header_row : csv_text (file_row (record { size = 16; protocol = 32; profile = 0; sum = sums.True; rest = record { items = 0x41 ∷ 0x42 ∷ [] } }) ∷ [])
    ≡ codes "file,16,32,0,sum,0x4142,\n"
unfolding csv_text escaped fields_text is_blank digits hex_digits
longer_header_row = refl

-- a text with a comma and a quote
quoted_row : csv_text (field_row {A = ℕ} 0 (record { number = 8; size = 5; code = 7 }) (record { width = 1; bits = codes "a,\"b" ++ (0 ∷ []) }) ∷ [])
    ≡ codes "field,product_name,\"a,\"\"b\",,,,\n"
unfolding csv_text escaped fields_text is_blank is_utf8 chars encode
quoted_row = refl

-- both architectures, and a compressed header
both_architectures_rows : csv_text (chain_rows (both_architectures ∷ []))
    ≡ codes "row,a,b,c,d,e,f\nfile,14,32,0,sum,,\ndef,0,0,little,20,2,\nfdef,253,4,134,,,\n"
    ++ codes "fdef,3,1,2,,,\ndata,0,,record,,,\nfield,timestamp,1000000031,s,,,\nfield,heart_rate,120,bpm,,,\n"
    ++ codes "def,1,0,big,20,2,\nfdef,2,2,132,,,\nfdef,8,3,13,,,\n"
    ++ codes "data,1,2,record,2021-09-08T01:47:14Z,,\nfield,altitude,0.0,m,,,\nfield,compressed_speed_distance,0x640010,,,,\nend,,,,,,\n"
unfolding csv_text records_rows escaped fields_text is_blank digits last_digits hex_digits date_after date_in_year
both_architectures_rows = refl

-- a developer field before and after its description
described_field_rows : csv_text (chain_rows (described_field ∷ []))
    ≡ codes "row,a,b,c,d,e,f\nfile,14,32,0,sum,,\ndef,0,0,little,206,4,\nfdef,0,1,2,,,\nfdef,1,1,2,,,\n"
    ++ codes "fdef,2,1,2,,,\nfdef,3,3,7,,,\ndef,1,0,little,20,0,1\nddef,5,2,0,,,\ndata,1,,record,,,\ndev,dev_0_5,0x3412,,,,\n"
    ++ codes "data,0,,field_description,,,\nfield,developer_data_index,0,,,,\nfield,field_definition_number,5,,,,\n"
    ++ codes "field,fit_base_type_id,132,,,,\nfield,field_name,mo,,,,\ndata,1,,record,,,\ndev,dev_0_5,0x3412,,,,\n"
    ++ codes "def,1,0,little,20,0,1\nddef,5,2,0,,,\ndata,1,,record,,,\ndev,mo,4660,,,,\nend,,,,,,\n"
unfolding csv_text records_rows escaped fields_text is_blank digits last_digits hex_digits date_after date_in_year is_utf8 chars encode
described_field_rows = refl
