-- The modes of locks and which of them conflict, as the MySQL 8.0 manual has it for table locks ("InnoDB Locking").
-- A key is locked in S or X alone, where the same table says that only S agrees with S.
use Rattle.std.specs.Prelude.{Bool, true, false, List, [], ◌∷◌}
use Rattle.isp_reclock.specs.declared.modes.Mode.{Mode}
use Rattle.isp_reclock.specs.declared.modes.Mode.TheVariants.{IS, IX, S, X}

-- whether a lock that one transaction holds in the first mode keeps another from the second
abbrev pub conflicts : Mode → Mode → Bool
conflicts IS IS = false
conflicts IS IX = false
conflicts IS S = false
conflicts IS X = true
conflicts IX IS = false
conflicts IX IX = false
conflicts IX S = true
conflicts IX X = true
conflicts S IS = false
conflicts S IX = true
conflicts S S = false
conflicts S X = true
conflicts X IS = true
conflicts X IX = true
conflicts X S = true
conflicts X X = true

-- all modes, in the order in which locks are listed
abbrev pub modes : List Mode
modes = IS ∷ IX ∷ S ∷ X ∷ []

-- the same mode
abbrev pub is_mode : Mode → Mode → Bool
is_mode IS IS = true
is_mode IX IX = true
is_mode S S = true
is_mode X X = true
is_mode _ _ = false

-- a mode in which a key is locked
abbrev pub IsKeyMode : Mode → Type 0
IsKeyMode IS = ⊥
IsKeyMode IX = ⊥
IsKeyMode S = Unit {0}
IsKeyMode X = Unit {0}
