-- Worked examples: a message; it twice after a bulletin's heading, with a stray `BUFR` between; a
-- message in another's character data; a frame inside a longer one that may still end.
use Rattle.std.specs.Prelude.{◌≡◌, ℕ, List, [], ◌∷◌, ◌++◌, length, map, take, refl}
use Rattle.bufr_frame.specs.declared.places.Start.{Start}
use Rattle.bufr_frame.specs.Starts.{start_of}
use Rattle.bufr_frame.specs.Streams.{cut, sure, rest_from}

-- a message of 62 octets whose template has two sequences
abbrev sequences : List ℕ
sequences = 66 ∷ 85 ∷ 70 ∷ 82 ∷ 0 ∷ 0 ∷ 62 ∷ 4 ∷ 0 ∷ 0 ∷ 22 ∷ 0 ∷ 0 ∷ 98 ∷ 0 ∷ 0 ∷ 0 ∷ 0 ∷ 0 ∷ 2 ∷ 0
    ∷ 37 ∷ 0 ∷ 7 ∷ 232 ∷ 1 ∷ 15 ∷ 12 ∷ 0 ∷ 0 ∷ 0 ∷ 0 ∷ 15 ∷ 0 ∷ 0 ∷ 1 ∷ 128 ∷ 193 ∷ 1 ∷ 193 ∷ 11
    ∷ 193 ∷ 12 ∷ 12 ∷ 101 ∷ 0 ∷ 0 ∷ 13 ∷ 0 ∷ 20 ∷ 192 ∷ 63 ∷ 64 ∷ 158 ∷ 192 ∷ 26 ∷ 172 ∷ 192 ∷ 55
    ∷ 55 ∷ 55 ∷ 55 ∷ []

-- a bulletin's heading, such a message, a stray `BUFR`, and the message again
abbrev two_frames_and_a_stray : List ℕ
two_frames_and_a_stray = 73 ∷ 83 ∷ 77 ∷ 68 ∷ 48 ∷ 49 ∷ 32 ∷ 69 ∷ 68 ∷ 90 ∷ 87 ∷ 32 ∷ 49 ∷ 53 ∷ 49
    ∷ 50 ∷ 48 ∷ 48 ∷ 66 ∷ 85 ∷ 70 ∷ 82 ∷ 0 ∷ 0 ∷ 62 ∷ 4 ∷ 0 ∷ 0 ∷ 22 ∷ 0 ∷ 0 ∷ 98 ∷ 0 ∷ 0 ∷ 0 ∷ 0
    ∷ 0 ∷ 2 ∷ 0 ∷ 37 ∷ 0 ∷ 7 ∷ 232 ∷ 1 ∷ 15 ∷ 12 ∷ 0 ∷ 0 ∷ 0 ∷ 0 ∷ 15 ∷ 0 ∷ 0 ∷ 1 ∷ 128 ∷ 193 ∷ 1
    ∷ 193 ∷ 11 ∷ 193 ∷ 12 ∷ 12 ∷ 101 ∷ 0 ∷ 0 ∷ 13 ∷ 0 ∷ 20 ∷ 192 ∷ 63 ∷ 64 ∷ 158 ∷ 192 ∷ 26 ∷ 172
    ∷ 192 ∷ 55 ∷ 55 ∷ 55 ∷ 55 ∷ 66 ∷ 85 ∷ 70 ∷ 82 ∷ 66 ∷ 85 ∷ 70 ∷ 82 ∷ 0 ∷ 0 ∷ 62 ∷ 4 ∷ 0 ∷ 0 ∷ 22
    ∷ 0 ∷ 0 ∷ 98 ∷ 0 ∷ 0 ∷ 0 ∷ 0 ∷ 0 ∷ 2 ∷ 0 ∷ 37 ∷ 0 ∷ 7 ∷ 232 ∷ 1 ∷ 15 ∷ 12 ∷ 0 ∷ 0 ∷ 0 ∷ 0 ∷ 15
    ∷ 0 ∷ 0 ∷ 1 ∷ 128 ∷ 193 ∷ 1 ∷ 193 ∷ 11 ∷ 193 ∷ 12 ∷ 12 ∷ 101 ∷ 0 ∷ 0 ∷ 13 ∷ 0 ∷ 20 ∷ 192 ∷ 63
    ∷ 64 ∷ 158 ∷ 192 ∷ 26 ∷ 172 ∷ 192 ∷ 55 ∷ 55 ∷ 55 ∷ 55 ∷ []

-- a message whose character data are another message
abbrev message_in_character_data : List ℕ
message_in_character_data = 66 ∷ 85 ∷ 70 ∷ 82 ∷ 0 ∷ 0 ∷ 99 ∷ 4 ∷ 0 ∷ 0 ∷ 22 ∷ 0 ∷ 0 ∷ 98 ∷ 0 ∷ 0 ∷ 0
    ∷ 0 ∷ 0 ∷ 2 ∷ 0 ∷ 37 ∷ 0 ∷ 7 ∷ 232 ∷ 1 ∷ 15 ∷ 12 ∷ 0 ∷ 0 ∷ 0 ∷ 0 ∷ 9 ∷ 0 ∷ 0 ∷ 1 ∷ 128 ∷ 133
    ∷ 52 ∷ 0 ∷ 0 ∷ 56 ∷ 0 ∷ 66 ∷ 85 ∷ 70 ∷ 82 ∷ 0 ∷ 0 ∷ 52 ∷ 4 ∷ 0 ∷ 0 ∷ 22 ∷ 0 ∷ 0 ∷ 98 ∷ 0 ∷ 0 ∷ 0
    ∷ 0 ∷ 0 ∷ 2 ∷ 0 ∷ 37 ∷ 0 ∷ 7 ∷ 232 ∷ 1 ∷ 15 ∷ 12 ∷ 0 ∷ 0 ∷ 0 ∷ 0 ∷ 13 ∷ 0 ∷ 0 ∷ 1 ∷ 128 ∷ 65 ∷ 0
    ∷ 31 ∷ 1 ∷ 12 ∷ 101 ∷ 0 ∷ 0 ∷ 5 ∷ 0 ∷ 0 ∷ 55 ∷ 55 ∷ 55 ∷ 55 ∷ 55 ∷ 55 ∷ 55 ∷ 55 ∷ []

-- a frame inside a longer one without an end
abbrev ruled_out_outer_frame : List ℕ
ruled_out_outer_frame = 66 ∷ 85 ∷ 70 ∷ 82 ∷ 0 ∷ 0 ∷ 22 ∷ 4 ∷ 66 ∷ 85 ∷ 70 ∷ 82 ∷ 0 ∷ 0 ∷ 12 ∷ 4 ∷ 55
    ∷ 55 ∷ 55 ∷ 55 ∷ []

-- a frame of 12 octets, the shortest
abbrev pub shortest : List ℕ
shortest = 66 ∷ 85 ∷ 70 ∷ 82 ∷ 0 ∷ 0 ∷ 12 ∷ 4 ∷ 55 ∷ 55 ∷ 55 ∷ 55 ∷ []

-- what begins with a length of 12, this eighth octet and these after it
abbrev pub shortest_with : ℕ → List ℕ → Start
shortest_with eighth octets = start_of (66 ∷ 85 ∷ 70 ∷ 82 ∷ 0 ∷ 0 ∷ 12 ∷ eighth ∷ octets)

-- seven octets with the greatest length
abbrev pub open_for_long : List ℕ
open_for_long = 66 ∷ 85 ∷ 70 ∷ 82 ∷ 255 ∷ 255 ∷ 255 ∷ []

-- the cut has both messages
two : map (λ f. f.place) (cut two_frames_and_a_stray) ≡ 18 ∷ 84 ∷ []
two = refl

-- with these octets
two_octets : map (λ f. f.bytes) (cut two_frames_and_a_stray) ≡ sequences ∷ sequences ∷ []
two_octets = refl

-- only the first is sure before the end
one_sure : map (λ f. f.place) (sure two_frames_and_a_stray) ≡ 18 ∷ []
one_sure = refl

-- a framer then holds the second, and the four octets before it
held : length (rest_from 1 0 two_frames_and_a_stray) ≡ 66
held = refl

-- the cut has the outer message alone
whole : map (λ f. f.place) (cut message_in_character_data) ≡ 0 ∷ []
whole = refl

-- cut off, it has the inner one
cut_off : map (λ f. f.place) (cut (take 98 message_in_character_data)) ≡ 43 ∷ []
cut_off = refl

-- with its own length
cut_off_length : map (λ f. length f.bytes) (cut (take 98 message_in_character_data)) ≡ 52 ∷ []
cut_off_length = refl

-- nothing is sure while the outer frame may end
none_yet : sure ruled_out_outer_frame ≡ []
none_yet = refl

-- one octet more rules it out
ruled_out : map (λ f. f.place) (sure (ruled_out_outer_frame ++ 0 ∷ [])) ≡ 8 ∷ []
ruled_out = refl
