-- The sizes that documents 01 and 02 set, each named once.
-- Assumes nothing.
use Rattle.std.specs.Prelude.{ℕ, ◌+◌, ◌*◌, ◌/◌, ◌^◌}

-- 'A sheet has N tones', from 1 on. W8: 'Size may be up to 1,024, and a silence word up to 31'
abbrev pub most_tones : ℕ
most_tones = 1024

-- the words from 0 on; 'word 1, map 4': a word has 32 tones, one for each bit of its map
abbrev pub most_words : ℕ
most_words = 32

abbrev pub word_tones : ℕ
word_tones = 32

-- the words that n tones take
abbrev pub words_of : (n : ℕ) → ℕ
words_of n = (n + 31) / word_tones

-- W8: 'A sheet may be 32,768 bytes'
abbrev pub longest_sheet : ℕ
longest_sheet = 32768

-- 'pair (two-dimensional, cap 0 to 15) and single (one-dimensional, cap 0 to 7)'
abbrev pub pair_cap : ℕ
pair_cap = 15

abbrev pub single_cap : ℕ
single_cap = 7

-- 'mask (0 to 2^47)', 'the budget (0 to 2^47)'
abbrev pub most_power : ℕ
most_power = 2 ^ 47

-- a cost is 'from 1 to 16,776,705'
abbrev pub most_cost : ℕ
most_cost = 16776705

-- no line's limits add up to more than this: the most tones, each of the largest cap
abbrev pub most_bits_of_all : ℕ
most_bits_of_all = most_tones * pair_cap

-- the table of commands, 'Bytes in all'
abbrev pub size_command : ℕ
size_command = 3

abbrev pub gap_command : ℕ
gap_command = 3

-- W1: 'Command 08 (hex), with one operand byte'
abbrev pub tenths_command : ℕ
tenths_command = 2

abbrev pub budget_command : ℕ
budget_command = 9

abbrev pub tone_command : ℕ
tone_command = 15

-- W5: 'Command 09 carries tone, noise float, gain float, cap, mask; 0A carries tone, ratio float, cap, mask'
abbrev pub levels_command : ℕ
levels_command = 19

abbrev pub ratio_command : ℕ
ratio_command = 15

abbrev pub silence_command : ℕ
silence_command = 6

-- W6: 'Command 0B gives tone and rest, 4 bytes'
abbrev pub rest_command : ℕ
rest_command = 6

-- W9: 'Command 0C gives tone and high noise, 2 bytes'
abbrev pub high_command : ℕ
high_command = 4

abbrev pub end_command : ℕ
end_command = 1

-- 'A loading writes 9 bytes a tone'
abbrev pub bytes_a_tone : ℕ
bytes_a_tone = 9

-- W3, the limits of a sheet: the limit, and what set it, a byte each
abbrev pub limit_bytes_a_tone : ℕ
limit_bytes_a_tone = 2

-- W7: a list of budgets, 'longer than 32 entries', '8 bytes each'; 'total bits and total power for each, 4 and 8 bytes'
abbrev pub most_budgets : ℕ
most_budgets = 32

abbrev pub budget_bytes : ℕ
budget_bytes = 8

abbrev pub totals_bytes : ℕ
totals_bytes = 12

-- 'an answer buffer of at least 24 bytes'
abbrev pub answer_room : ℕ
answer_room = 24
