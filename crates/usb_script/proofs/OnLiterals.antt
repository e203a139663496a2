-- All that a script's definition unfolds, for scripts that are written out.
use Rattle.std.specs.Prelude.{⊤}
use Rattle.hex.specs.Hex.{decode_pairs}
use Rattle.usb_script_words.specs.Words.{decimal_of, number_of, number_between, time_of, index_of, name_of, hex_byte_of, hex_word_of, bytes_of, kind_of, errno_of, read_length_of, call_of}
use Rattle.usb_script_words.specs.Controls.{control_type_of, recipient_of, setup_and_more, control_target_of, control_bytes_of, string_index_of}
use Rattle.usb_script_words.specs.Fields.{no_word, one_word, two_words, three_words, four_words, six_words, one_and_more, two_and_more, three_and_more, one_field, two_fields, three_fields}
use Rattle.usb_script_words.specs.Places.{path_of, file_name_of, target_of, value_of}
use Rattle.usb_script_words.specs.Selectors.{class_criterion, named_criterion, selector_of}
use Rattle.usb_script_lines.specs.Shapes.{field_and_steps}
use Rattle.usb_script_words.specs.StepForms.{step_forms, step_of}
use Rattle.usb_script_words.specs.KernelSteps.{parts_of, steps_of, own_steps_of}
use Rattle.usb_script_lines.specs.Forms.{forms, named_of}
use Rattle.usb_script_lines.specs.LineForms.{form_of, item_of, item_reading_of, own_reading_of, reading_of}
use Rattle.usb_script.specs.Order.{is_free_device, may_follow}
use Rattle.usb_script.specs.Parse.{parse, script_of}

unfoldable pub script_on_literals : ⊤
unfolding control_type_of recipient_of setup_and_more control_target_of control_bytes_of string_index_of decode_pairs decimal_of number_of number_between time_of index_of name_of hex_byte_of hex_word_of bytes_of kind_of errno_of read_length_of call_of no_word one_word two_words three_words four_words six_words one_and_more two_and_more three_and_more one_field two_fields three_fields field_and_steps path_of file_name_of target_of value_of class_criterion named_criterion selector_of step_forms step_of parts_of steps_of own_steps_of forms named_of form_of item_of item_reading_of own_reading_of reading_of is_free_device may_follow parse script_of
script_on_literals = tt
