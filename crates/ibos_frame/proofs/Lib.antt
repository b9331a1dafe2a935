mod BodyDrawn
mod DrawnLines
mod ScreenPixels
mod ContentPlaces
