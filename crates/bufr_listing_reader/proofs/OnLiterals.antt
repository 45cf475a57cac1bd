-- The definitions that the worked examples open.
use Rattle.std.specs.Fmt.{digits}
use Rattle.hex.specs.Hex.{encode_with, decode_pairs}
use Rattle.bufr_tables.specs.Descriptors.{of_text}
use Rattle.bufr_tables.specs.Entries.{at}
use Rattle.bufr_expand.specs.Expansion.{expand_list, expand_within}
use Rattle.bufr_expand.specs.Trees.{tree_within}
use Rattle.bufr_expand.specs.Courses.{turns, course_then}
use Rattle.bufr_listing.specs.Listings.{heading_lines, lines_of, listing}
use Rattle.bufr_listing_reader.specs.Lines.{counting_from}
use Rattle.bufr_listing_reader.specs.FieldLines.{unquoted}
use Rattle.bufr_listing_reader.specs.Reading.{are_below, fields_read, subsets_read, message_read}
use Rattle.bufr_listing_reader.specs.Reading.{messages_read}

unfoldable pub listings_on_literals : Unit {0}
unfolding at expand_list expand_within tree_within turns course_then counting_from are_below
    unquoted fields_read subsets_read message_read messages_read heading_lines lines_of listing
    of_text encode_with decode_pairs digits
listings_on_literals = tt
