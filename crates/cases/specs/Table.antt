-- The worked cases of the product. Assumes nothing.
use Rattle.std.specs.Prelude.{ℕ, true, false, List, [], ◌∷◌, ◌++◌, replicate, Ok, Err, codes}
use Rattle.std.specs.List.{AllByRecursion}
use Rattle.frames.specs.declared.frame.Frame.{Frame}
use Rattle.exchange.specs.declared.outcome.Outcome.TheVariants.{Empty, Swapped, Light}
use Rattle.cases.specs.Case.{Case, Holds, offered, outdone, labelled, printed, size, marked, stepped, joined, boxed, weighed, look, look_at_end}
use Rattle.cases.specs.Five.{shot, records_of_five, frames_of_five, outcomes_of_five, digest_of_five}

-- four frames of one lane, whose gains are 1, 2, 4 and 7: the last is light, though it alone is worth more than three times
-- what is kept
abbrev pub rising : List Frame
rising = shot 1 0x1 0 ∷ shot 2 0x2 0 ∷ shot 3 0x8 0 ∷ shot 4 0x4b 0 ∷ []

-- all 64 marks
abbrev pub all : ℕ
all = 18446744073709551615

-- lanes 0 and 1 have the caps 2, and stand under box 64, which has the cap 3; no other box holds a frame or another box
abbrev pub two_lanes : List ℕ
two_lanes = 2 ∷ 2 ∷ replicate 62 0 ++ (3 ∷ replicate 31 0)

abbrev pub under_one : List ℕ
under_one = 64 ∷ 64 ∷ replicate 94 255

abbrev pub table : List Case
table =
    offered frames_of_five outcomes_of_five
    ∷ outdone rising (3 ∷ []) 4 14
    ∷ labelled 48 48 1536 2 4
    ∷ printed records_of_five frames_of_five digest_of_five
    ∷ size 0 (Err 1)
    ∷ size 49 (Err 1)
    ∷ size 1 (Ok 1)
    ∷ size 48 (Ok 48)
    ∷ marked (replicate 64 67108863) all 4294967232
    ∷ stepped (5 ∷ 3 ∷ 3 ∷ []) 3 11
    ∷ stepped (5 ∷ 3 ∷ 3 ∷ []) 9 11
    ∷ joined ((1, 2) ∷ (2, 3) ∷ []) true
    ∷ joined ((1, 2) ∷ (2, 3) ∷ (1, 3) ∷ []) false
    ∷ joined ((1, 2) ∷ (7, 8) ∷ (2, 3) ∷ (1, 3) ∷ []) false
    ∷ joined ((4, 4) ∷ []) false
    ∷ joined ((1, 2) ∷ (2, 1) ∷ []) false
    ∷ boxed two_lanes under_one (0 ∷ 0 ∷ 1 ∷ []) true
    ∷ boxed two_lanes under_one (0 ∷ 0 ∷ 1 ∷ 1 ∷ []) false
    ∷ weighed 3 3 6 (λ a. Swapped 0 6 a)
    ∷ weighed 3 3 5 (λ a. Light 0 5 3)
    ∷ look (codes "look=255\n") (Ok 255)
    ∷ look (codes "look=256\n") (Err 7)
    ∷ look (codes "look=007\n") (Err 6)
    ∷ look_at_end (codes "look=25") (Err 8)
    ∷ []

-- each case of the table holds
abbrev pub CasesStand : Type 0
CasesStand = AllByRecursion Holds table

-- cases that are told wrongly: of each kind, one for each thing that a case says
abbrev pub wrong : List Case
wrong =
    offered (shot 1 0x3 0 ∷ []) (Empty ∷ [])
    -- what is kept is worth 4, and the choice 14; two frames of one lane do not stand together
    ∷ outdone rising (3 ∷ []) 5 14
    ∷ outdone rising (3 ∷ []) 4 15
    ∷ outdone rising (2 ∷ 3 ∷ []) 4 14
    -- other frames; a text that is no record; a print-out of nothing
    ∷ printed records_of_five (replicate 5 (shot 1 0x3 0)) digest_of_five
    ∷ printed (codes "x") [] (codes "size=2\nkept=0\ntook=0\nseen=0\ngain=0\ntold=0\n")
    ∷ printed [] [] []
    ∷ size 49 (Ok 49)
    -- weights that are refused, steps that rise, a cap that is refused
    ∷ marked (replicate 64 67108864) all 4294967296
    ∷ marked (replicate 64 67108863) all 4294967295
    ∷ stepped (3 ∷ 5 ∷ []) 2 8
    ∷ stepped (5 ∷ 3 ∷ 3 ∷ []) 9 14
    ∷ joined ((4, 4) ∷ []) true
    ∷ boxed (49 ∷ replicate 95 0) (replicate 96 255) (0 ∷ []) true
    ∷ boxed two_lanes under_one (0 ∷ 0 ∷ 1 ∷ 1 ∷ []) true
    ∷ weighed 3 3 5 (λ a. Swapped 0 5 a)
    ∷ look (codes "look=256\n") (Ok 256)
    -- cut where nothing stands behind it, and not before a line feed
    ∷ look (codes "look=25") (Err 8)
    ∷ look_at_end (codes "look=25") (Ok 25)
    ∷ []

-- no case that is told wrongly holds
abbrev pub WrongCasesFail : Type 0
WrongCasesFail = AllByRecursion (λ c. Holds c → ⊥) wrong
