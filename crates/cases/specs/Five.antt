-- The run of five: the records that the program reads, their frames, what becomes of each, and what is printed. Assumes nothing.
use Rattle.std.specs.Prelude.{ℕ, List, [], ◌∷◌, ◌++◌, codes}
use Rattle.frames.specs.declared.frame.Frame.{Frame}
use Rattle.exchange.specs.declared.outcome.Outcome.{Outcome}
use Rattle.exchange.specs.declared.outcome.Outcome.TheVariants.{Empty, Kept, Swapped, Light}

abbrev pub records_of_five : List ℕ
records_of_five =
    codes "frame=1\nmarks=0000000000000003\nlook=0\nlane=0\ntail=0\nhead=0\nside=0\n"
    ++ (codes "frame=2\nmarks=0000000000000007\nlook=0\nlane=0\ntail=0\nhead=0\nside=0\n"
    ++ (codes "frame=3\nmarks=0000000000000004\nlook=0\nlane=1\ntail=0\nhead=0\nside=0\n"
    ++ (codes "frame=4\nmarks=0000000000000030\nlook=0\nlane=0\ntail=0\nhead=0\nside=0\n"
    ++ codes "frame=5\nmarks=0000000000000004\nlook=0\nlane=2\ntail=0\nhead=0\nside=0\n")))

-- a frame by its number, marks and lane; all else of it is 0
abbrev pub shot : ℕ → ℕ → ℕ → Frame
shot n m l = record { number = n; marks = m; look = 0; lane = l; tail = 0; head = 0; side = 0 }

abbrev pub frames_of_five : List Frame
frames_of_five = shot 1 0x3 0 ∷ shot 2 0x7 0 ∷ shot 3 0x4 1 ∷ shot 4 0x30 0 ∷ shot 5 0x4 2 ∷ []

-- kept at 0 with gain 3; light, 3 against 3; kept at 1 with gain 3; swapped into 0 with gain 11, so that frame 1 leaves;
-- empty
abbrev pub outcomes_of_five : List Outcome
outcomes_of_five = Kept 0 3 ∷ Light 0 3 3 ∷ Kept 1 3 ∷ Swapped 0 11 (shot 1 0x3 0) ∷ Empty ∷ []

abbrev pub digest_of_five : List ℕ
digest_of_five =
    codes "size=2\nkept=2\ntook=3\nseen=5\ngain=14\ntold=17\n"
    ++ (codes "place=0\nworth=11\nframe=4\nmarks=0000000000000030\nlook=0\nlane=0\ntail=0\nhead=0\nside=0\n"
    ++ codes "place=1\nworth=3\nframe=3\nmarks=0000000000000004\nlook=0\nlane=1\ntail=0\nhead=0\nside=0\n")
