-- The profile: the messages of an activity file and their fields, as the messages of the FIT SDK's Profile have them. A field's row is its
-- number, its name, and, where they stand, its unit, the scale and the offset of its numbers.
use Prim.Native.String.{String}
use Rattle.std.specs.Prelude.{ℕ, List, [], ◌∷◌, codes}

-- What the profile says of a field. A number `raw` of the field stands for `raw / scale - offset` units.
pub record Meaning : Type 0 where
  pub name : List ℕ
  pub unit : List ℕ
  pub scale : ℕ
  pub offset : ℕ

pub record Field : Type 0 where
  pub number : ℕ
  pub meaning : Meaning

pub record Message : Type 0 where
  pub global : ℕ
  pub name : List ℕ
  pub fields : List Field

-- a field with a unit, a scale and an offset
abbrev pub scaled : ℕ → String → String → ℕ → ℕ → Field
scaled number name unit scale offset = record { number = number; meaning = record { name = codes name; unit = codes unit; scale = scale; offset = offset } }

-- a field of whole numbers with a unit
abbrev pub measured : ℕ → String → String → Field
measured number name unit = scaled number name unit 1 0

-- a field of whole numbers without a unit
abbrev pub plain : ℕ → String → Field
plain number name = measured number name ""

abbrev pub message : ℕ → String → List Field → Message
message global name fields = record { global = global; name = codes name; fields = fields }

-- in every message, listed or not
abbrev pub timestamp : Field
timestamp = measured 253 "timestamp" "s"

-- in every message that is listed below, and in no other
abbrev pub message_index : Field
message_index = plain 254 "message_index"

abbrev pub file_id : Message
file_id =
    message 0 "file_id" (
    plain 0 "type"
    ∷ plain 1 "manufacturer"
    ∷ plain 2 "product"
    ∷ plain 3 "serial_number"
    ∷ measured 4 "time_created" "s"
    ∷ plain 5 "number"
    ∷ plain 8 "product_name"
    ∷ [])

abbrev pub sport : Message
sport =
    message 12 "sport" (
    plain 0 "sport"
    ∷ plain 1 "sub_sport"
    ∷ plain 3 "name"
    ∷ [])

abbrev pub session : Message
session =
    message 18 "session" (
    plain 0 "event"
    ∷ plain 1 "event_type"
    ∷ measured 2 "start_time" "s"
    ∷ measured 3 "start_position_lat" "semicircles"
    ∷ measured 4 "start_position_long" "semicircles"
    ∷ plain 5 "sport"
    ∷ plain 6 "sub_sport"
    ∷ scaled 7 "total_elapsed_time" "s" 1000 0
    ∷ scaled 8 "total_timer_time" "s" 1000 0
    ∷ scaled 9 "total_distance" "m" 100 0
    ∷ measured 10 "total_cycles" "cycles"
    ∷ measured 11 "total_calories" "kcal"
    ∷ scaled 14 "avg_speed" "m/s" 1000 0
    ∷ scaled 15 "max_speed" "m/s" 1000 0
    ∷ measured 16 "avg_heart_rate" "bpm"
    ∷ measured 17 "max_heart_rate" "bpm"
    ∷ measured 18 "avg_cadence" "rpm"
    ∷ measured 19 "max_cadence" "rpm"
    ∷ measured 20 "avg_power" "watts"
    ∷ measured 21 "max_power" "watts"
    ∷ measured 22 "total_ascent" "m"
    ∷ measured 23 "total_descent" "m"
    ∷ plain 25 "first_lap_index"
    ∷ plain 26 "num_laps"
    ∷ plain 28 "trigger"
    ∷ [])

abbrev pub lap : Message
lap =
    message 19 "lap" (
    plain 0 "event"
    ∷ plain 1 "event_type"
    ∷ measured 2 "start_time" "s"
    ∷ measured 3 "start_position_lat" "semicircles"
    ∷ measured 4 "start_position_long" "semicircles"
    ∷ measured 5 "end_position_lat" "semicircles"
    ∷ measured 6 "end_position_long" "semicircles"
    ∷ scaled 7 "total_elapsed_time" "s" 1000 0
    ∷ scaled 8 "total_timer_time" "s" 1000 0
    ∷ scaled 9 "total_distance" "m" 100 0
    ∷ measured 10 "total_cycles" "cycles"
    ∷ measured 11 "total_calories" "kcal"
    ∷ scaled 13 "avg_speed" "m/s" 1000 0
    ∷ scaled 14 "max_speed" "m/s" 1000 0
    ∷ measured 15 "avg_heart_rate" "bpm"
    ∷ measured 16 "max_heart_rate" "bpm"
    ∷ measured 17 "avg_cadence" "rpm"
    ∷ measured 18 "max_cadence" "rpm"
    ∷ measured 19 "avg_power" "watts"
    ∷ measured 20 "max_power" "watts"
    ∷ measured 21 "total_ascent" "m"
    ∷ measured 22 "total_descent" "m"
    ∷ plain 23 "intensity"
    ∷ plain 24 "lap_trigger"
    ∷ plain 25 "sport"
    ∷ [])

abbrev pub record_message : Message
record_message =
    message 20 "record" (
    measured 0 "position_lat" "semicircles"
    ∷ measured 1 "position_long" "semicircles"
    ∷ scaled 2 "altitude" "m" 5 500
    ∷ measured 3 "heart_rate" "bpm"
    ∷ measured 4 "cadence" "rpm"
    ∷ scaled 5 "distance" "m" 100 0
    ∷ scaled 6 "speed" "m/s" 1000 0
    ∷ measured 7 "power" "watts"
    ∷ plain 8 "compressed_speed_distance"
    ∷ scaled 9 "grade" "%" 100 0
    ∷ scaled 11 "time_from_course" "s" 1000 0
    ∷ measured 13 "temperature" "C"
    ∷ measured 18 "cycles" "cycles"
    ∷ measured 19 "total_cycles" "cycles"
    ∷ measured 28 "compressed_accumulated_power" "watts"
    ∷ measured 29 "accumulated_power" "watts"
    ∷ scaled 32 "vertical_speed" "m/s" 1000 0
    ∷ measured 33 "calories" "kcal"
    ∷ scaled 39 "vertical_oscillation" "mm" 10 0
    ∷ scaled 41 "stance_time" "ms" 10 0
    ∷ scaled 73 "enhanced_speed" "m/s" 1000 0
    ∷ scaled 78 "enhanced_altitude" "m" 5 500
    ∷ [])

abbrev pub event : Message
event =
    message 21 "event" (
    plain 0 "event"
    ∷ plain 1 "event_type"
    ∷ plain 2 "data16"
    ∷ plain 3 "data"
    ∷ plain 4 "event_group"
    ∷ [])

abbrev pub device_info : Message
device_info =
    message 23 "device_info" (
    plain 0 "device_index"
    ∷ plain 1 "device_type"
    ∷ plain 2 "manufacturer"
    ∷ plain 3 "serial_number"
    ∷ plain 4 "product"
    ∷ scaled 5 "software_version" "" 100 0
    ∷ plain 6 "hardware_version"
    ∷ measured 7 "cum_operating_time" "s"
    ∷ scaled 10 "battery_voltage" "V" 256 0
    ∷ plain 11 "battery_status"
    ∷ [])

abbrev pub activity : Message
activity =
    message 34 "activity" (
    scaled 0 "total_timer_time" "s" 1000 0
    ∷ plain 1 "num_sessions"
    ∷ plain 2 "type"
    ∷ plain 3 "event"
    ∷ plain 4 "event_type"
    ∷ measured 5 "local_timestamp" "s"
    ∷ [])

abbrev pub file_creator : Message
file_creator =
    message 49 "file_creator" (
    plain 0 "software_version"
    ∷ plain 1 "hardware_version"
    ∷ [])

abbrev pub hrv : Message
hrv =
    message 78 "hrv" (
    scaled 0 "time" "s" 1000 0
    ∷ [])

abbrev pub field_description : Message
field_description =
    message 206 "field_description" (
    plain 0 "developer_data_index"
    ∷ plain 1 "field_definition_number"
    ∷ plain 2 "fit_base_type_id"
    ∷ plain 3 "field_name"
    ∷ plain 8 "units"
    ∷ [])

abbrev pub developer_data_id : Message
developer_data_id =
    message 207 "developer_data_id" (
    plain 1 "application_id"
    ∷ plain 3 "developer_data_index"
    ∷ plain 4 "application_version"
    ∷ [])

abbrev pub messages : List Message
messages =
    file_id ∷ sport ∷ session ∷ lap ∷ record_message ∷ event ∷ device_info ∷ activity ∷ file_creator ∷ hrv ∷ field_description ∷ developer_data_id ∷ []
