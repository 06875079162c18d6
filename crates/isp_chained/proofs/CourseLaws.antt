-- Courses go on, and one behind the other is one.
use Rattle.std.proofs.Common.{ℕ, List, [], ◌∷◌, ◌++◌, refl, subst}
use Rattle.isp_image.specs.Databases.{Database}
use Rattle.isp_chained.specs.Courses.{Course, IsKept, Reaches, Step}
use Rattle.isp_chained.specs.Laws.{CourseGoesOn}

pub reaches_self : (pages : ℕ) (db : Database) → Reaches pages db db
reaches_self pages db = ([], refl)

course_on : (pages : ℕ) (old : Database) (way : List Database) (mid new : Database) → Course pages old way mid → Step mid new → IsKept pages new → Course pages old (way ++ new ∷ []) new
course_on pages old [] mid new is step kept = (subst (λ (d : Database). Step d new) is step, kept, refl)
course_on pages old (next ∷ way) mid new is step kept = (is.0, is.1, course_on pages next way mid new is.2 step kept)

pub reaches_more : (pages : ℕ) (old mid new : Database) → Reaches pages old mid → Step mid new → IsKept pages new → Reaches pages old new
reaches_more pages old mid new is step kept = (is.0 ++ new ∷ [], course_on pages old is.0 mid new is.1 step kept)

course_joined : (pages : ℕ) (old : Database) (way : List Database) (mid new : Database) (more : List Database) → Course pages old way mid → Course pages mid more new → Course pages old (way ++ more) new
course_joined pages old [] mid new more is other = subst (λ (d : Database). Course pages d more new) is other
course_joined pages old (next ∷ way) mid new more is other = (is.0, is.1, course_joined pages next way mid new more is.2 other)

pub reaches_on : (pages : ℕ) (old mid new : Database) → Reaches pages old mid → Reaches pages mid new → Reaches pages old new
reaches_on pages old mid new is other = (is.0 ++ other.0, course_joined pages old is.0 mid new other.0 is.1 other.1)

pub goes_on : CourseGoesOn
goes_on pages contents chains first d after reach step kept = reaches_more pages first d after reach step (contents, chains, kept)
